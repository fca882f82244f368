use Rattle.std.proofs.Common.{ℕ, ◌+◌, sym, subst, arith}
use mathlib.Core.Option.{none}
use Rattle.atomic_table.specs.Table.{Allows, step}
use Rattle.git_visits.specs.declared.view.Post.{Post}
use Rattle.git_visits.specs.declared.view.Post.TheVariants.{Held}
use Rattle.git_visits.specs.Visits.{Ruled}
use Rattle.git_visits.specs.Plays as plays
use Rattle.git_visits.proofs.Stores.{stores}
use Rattle.git_table.proofs.steps.store_word.Goals as goal

pub overflow_add-start : goal.overflow_add-start
overflow_add-start g c = let o = c.requires.own in let s = c.requires.small in record { fits = omega arith }

pub store-requires : goal.store-requires
store-requires g c =
    let o = c.requires.own in let v = c.requires.view in let s = c.requires.small in (
      o.0,
      omega arith,
      subst (λ (p : Post g.row.G.Denot). Allows (Ruled g.G.Successors.next c.args.shared.now.key) c.args.shared.now.table_id.slots c.args.seat.now.id (p, c.args.seat.now.me.1) (c.args.start + c.args.j) (λ _. c.args.word)
          (λ _. plays.stored (step c.args.shared.now.table_id.slots (c.args.start + c.args.j) c.args.word 0 none) (p, c.args.seat.now.me.1) c.args.word)) (sym v.1)
          (subst (λ (i : ℕ). Allows (Ruled g.G.Successors.next c.args.shared.now.key) c.args.shared.now.table_id.slots c.args.seat.now.id (Held v.0, c.args.seat.now.me.1) (i + c.args.j) (λ _. c.args.word)
          (λ _. plays.stored (step c.args.shared.now.table_id.slots (i + c.args.j) c.args.word 0 none) (Held v.0, c.args.seat.now.me.1) c.args.word)) (sym v.2.4)
          (stores g.G.Successors.next c.args.shared.now.key c.args.shared.now.table_id.slots c.args.seat.now.id v.0 c.args.seat.now.me.1 v.2.0 c.args.j c.args.word v.2.1 v.2.2 v.2.3 v.2.5)),
    )
