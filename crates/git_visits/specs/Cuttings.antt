-- How a view is cut in two, and how two are made one.
use Rattle.std.specs.Prelude.{◌+◌, ◌-◌, [], ◌++◌, max, None}
use Rattle.git_visits.specs.Lists.{front_of, tail_of}
use Rattle.git_visits.specs.declared.view.Work.{Work}
use Rattle.git_visits.specs.declared.view.Post.{Post}
use Rattle.git_visits.specs.declared.view.Post.TheVariants.{Spent, Held}

-- what a new seat has, and what two seats without a hand have together
abbrev pub given_work : Work → Work
given_work u = record { fresh = None; counted = 0; hand = None; owes = 0; mine = []; quiet = u.quiet; halted = u.halted }

abbrev pub joined_work : Work → Work → Work
joined_work u t = record { fresh = None; counted = 0; hand = None; owes = 0; mine = u.mine ++ t.mine; quiet = max u.quiet t.quiet; halted = max u.halted t.halted }

module _ {G : Type 0} where
  abbrev pub kept_half : Post G → Post G
  kept_half Spent = Spent
  kept_half (Held v) = Held (record v { places = v.places - 1; spares = tail_of v.spares })

  abbrev pub given_half : Post G → Post G
  given_half Spent = Spent
  given_half (Held v) = Held (record v { places = 1; spares = front_of v.spares; work = given_work v.work })

  abbrev pub joined : Post G → Post G → Post G
  joined Spent q = q
  joined (Held v) Spent = Held v
  joined (Held v) (Held w) = Held (record v { places = v.places + w.places; spares = v.spares ++ w.spares; full = max v.full w.full; seen = v.seen ++ w.seen; work = joined_work v.work w.work })
