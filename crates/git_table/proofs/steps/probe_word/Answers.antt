use Rattle.std.proofs.Common.{◌+◌, sym, subst, arith}
use mathlib.Core.Option.{none}
use Rattle.atomic_table.specs.Table.{Allows, step}
use Rattle.git_visits.specs.declared.view.Post.{Post}
use Rattle.git_visits.specs.Visits.{Ruled}
use Rattle.git_visits.specs.Plays as plays
use Rattle.git_visits.proofs.Loads.{probes}
use Rattle.git_table.proofs.steps.probe_word.Goals as goal

pub overflow_add-hash : goal.overflow_add-hash
overflow_add-hash g c = let o = c.requires.own in let s = c.requires.small in record { fits = omega arith }

pub load-requires : goal.load-requires
load-requires g c =
    let o = c.requires.own in let v = c.requires.view in let s = c.requires.small in (
      o.0,
      omega arith,
      subst (λ (p : Post g.row.G.Denot). Allows (Ruled g.G.Successors.next c.args.shared.now.key) c.args.shared.now.table_id.slots c.args.seat.now.id (p, c.args.seat.now.me.1) (1 + c.args.hash) (λ n. n)
          (plays.probed (step c.args.shared.now.table_id.slots (1 + c.args.hash) 0 0 none) (p, c.args.seat.now.me.1))) (sym v.1)
          (probes g.G.Successors.next c.args.shared.now.key c.args.shared.now.table_id.slots c.args.seat.now.id v.0 c.args.seat.now.me.1 c.args.hash v.2),
    )
