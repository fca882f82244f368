use Rattle.std.proofs.Common.{sym, subst, arith}
use Rattle.atomic_table.specs.Table.{Joins}
use Rattle.git_visits.specs.declared.view.Post.{Post}
use Rattle.git_visits.specs.declared.view.Post.TheVariants.{Spent, Held}
use Rattle.git_visits.specs.Visits.{Ruled}
use Rattle.git_visits.specs.Cuttings.{joined}
use Rattle.git_visits.proofs.Seating.{joins}
use Rattle.git_table.proofs.visited.Visited.join.Goals as goal

pub join_seat-requires : goal.join_seat-requires
join_seat-requires g c =
    let o = c.requires.own in let v = c.requires.view.0 in let w = c.requires.view.1 in (
      o.0,
      o.1,
      o.2,
      (let w = c.args.self.now.words in omega arith),
      subst (λ (p : Post g.row.G.Denot). Joins (Ruled g.G.Successors.next c.args.self.now.table.shared.key) c.args.seat.now.id p c.args.other.id c.args.other.me.0 (joined p c.args.other.me.0) Spent) (sym v.1)
          (subst (λ (q : Post g.row.G.Denot). Joins (Ruled g.G.Successors.next c.args.self.now.table.shared.key) c.args.seat.now.id (Held v.0) c.args.other.id q (joined (Held v.0) q) Spent) (sym w.1)
          (joins g.G.Successors.next c.args.self.now.table.shared.key c.args.seat.now.id c.args.other.id v.0 w.0 v.2.0 w.2.0 v.2.1 w.2.1)),
    )
