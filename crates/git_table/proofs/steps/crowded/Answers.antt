use Rattle.std.proofs.Common.{sym, subst, arith}
use Rattle.atomic_table.specs.Table.{Allows}
use Rattle.git_visits.specs.declared.view.Post.{Post}
use Rattle.git_visits.specs.Visits.{Ruled}
use Rattle.git_visits.proofs.Loads.{crowds}
use Rattle.git_table.proofs.steps.crowded.Goals as goal

pub load-requires : goal.load-requires
load-requires g c =
    let o = c.requires.own in let v = c.requires.view in (
      o.0,
      omega arith,
      subst (λ (p : Post g.row.G.Denot). Allows (Ruled g.G.Successors.next c.args.shared.now.key) c.args.shared.now.table_id.slots c.args.seat.now.id (p, c.args.seat.now.me.1) 0 (λ n. n) (λ n m. ⊥)) (sym v.1)
          (crowds g.G.Successors.next c.args.shared.now.key c.args.shared.now.table_id.slots c.args.seat.now.id v.0 c.args.seat.now.me.1 v.2.0 (λ n m. ⊥) v.2.1),
    )
