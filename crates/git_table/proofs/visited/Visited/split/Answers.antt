use Rattle.std.proofs.Common.{sym, subst, arith}
use Rattle.atomic_table.specs.Table.{Splits}
use Rattle.git_visits.specs.declared.view.Post.{Post}
use Rattle.git_visits.specs.Visits.{Ruled}
use Rattle.git_visits.specs.Cuttings.{kept_half, given_half}
use Rattle.git_visits.proofs.Seating.{splits}
use Rattle.git_table.proofs.visited.Visited.split.Goals as goal

pub split_seat-requires : goal.split_seat-requires
split_seat-requires g c =
    let v = c.requires.view in (
      c.requires.own,
      (let w = c.args.self.now.words in omega arith),
      subst (λ (p : Post g.row.G.Denot). Splits (Ruled g.G.Successors.next c.args.self.now.table.shared.key) c.args.seat.now.id p (kept_half p) (given_half p)) (sym v.1)
          (splits g.G.Successors.next c.args.self.now.table.shared.key c.args.seat.now.id v.0 v.2.0 v.2.1),
    )
