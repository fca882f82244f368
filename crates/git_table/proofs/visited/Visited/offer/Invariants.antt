use Rattle.std.proofs.Common.{◌≡◌}
use Rattle.git_visits.specs.declared.view.Known.{Known}
use Rattle.git_visits.specs.declared.view.Post.TheVariants.{Held}
use Rattle.git_visits.specs.Lists.{tail_of}
use Rattle.git_visits.specs.Seats.{Holds, Extends, Tried, SpareIs}
use Rattle.git_table.proofs.visited.Visited.offer.Given as goal

abbrev pub invariant-loop-k : goal.invariant-loop-k
invariant-loop-k g l = record {
  own : (l.seat.table_id ≡ l.fn.seat.table_id) × (l.seat.me.1 ≡ l.fn.seat.me.1);
  told : (v : Known g.row.G.Denot) → l.fn.seat.me.0 ≡ Held v → Holds l.seat (λ w. Extends v w × SpareIs w l.spare l.sig × Tried w l.sig l.k × (tail_of w.spares ≡ tail_of v.spares));
}
