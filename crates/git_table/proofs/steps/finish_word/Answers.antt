use Rattle.std.proofs.Common.{ℕ, sym, subst}
use mathlib.Core.Option.{none}
use Rattle.atomic_table.specs.Table.{Allows, step}
use Rattle.git_visits.specs.declared.view.Post.{Post}
use Rattle.git_visits.specs.declared.view.Post.TheVariants.{Held}
use Rattle.git_visits.specs.Visits.{Ruled}
use Rattle.git_visits.specs.Plays as plays
use Rattle.git_visits.proofs.Works.{finishes}
use Rattle.git_table.proofs.steps.finish_word.Goals as goal

pub store-requires : goal.store-requires
store-requires g c =
    let o = c.requires.own in let v = c.requires.view in (
      o.0,
      c.requires.small,
      subst (λ (p : Post g.row.G.Denot). Allows (Ruled g.G.Successors.next c.args.shared.now.key) c.args.shared.now.table_id.slots c.args.seat.now.id (p, c.args.seat.now.me.1) c.args.word (λ _. 3) (λ _. plays.finished (step c.args.shared.now.table_id.slots c.args.word 3 0 none) (p, c.args.seat.now.me.1) 3)) (sym v.1)
          (subst (λ (i : ℕ). Allows (Ruled g.G.Successors.next c.args.shared.now.key) c.args.shared.now.table_id.slots c.args.seat.now.id (Held v.0, c.args.seat.now.me.1) i (λ _. 3) (λ _. plays.finished (step c.args.shared.now.table_id.slots i 3 0 none) (Held v.0, c.args.seat.now.me.1) 3)) (sym v.2.6)
          (finishes g.G.Successors.next c.args.shared.now.key c.args.shared.now.table_id.slots c.args.seat.now.id v.0 c.args.seat.now.me.1 v.2.0 v.2.1 v.2.2 v.2.3 v.2.4 v.2.5)),
    )
