use Rattle.std.proofs.Common.{◌+◌, ◌-◌, ◌%◌, ◌^◌, sym, subst, arith}
use mathlib.Core.Option.{none}
use Rattle.atomic_table.specs.Table.{Allows, step}
use Rattle.git_visits.specs.declared.view.Post.{Post}
use Rattle.git_visits.specs.Visits.{Ruled}
use Rattle.git_visits.specs.Plays as plays
use Rattle.git_visits.proofs.Draws.{undraws}
use Rattle.git_table.proofs.steps.undraw.Goals as goal

pub fetch_sub-requires : goal.fetch_sub-requires
fetch_sub-requires g c =
    let o = c.requires.own in let v = c.requires.view in (
      o.0,
      omega arith,
      subst (λ (p : Post g.row.G.Denot). Allows (Ruled g.G.Successors.next c.args.shared.now.key) c.args.shared.now.table_id.slots c.args.seat.now.id (p, c.args.seat.now.me.1) 0 (λ n. (n + (2 ^ 64 - 1)) % 2 ^ 64)
          (plays.undrew (step c.args.shared.now.table_id.slots 0 1 0 none) (p, c.args.seat.now.me.1))) (sym v.1)
          (undraws g.G.Successors.next c.args.shared.now.key c.args.shared.now.table_id.slots c.args.seat.now.id v.0 c.args.seat.now.me.1 v.2),
    )
