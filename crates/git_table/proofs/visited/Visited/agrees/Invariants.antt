use Rattle.std.proofs.Common.{◌≡◌, ℕ, ◌+◌, ◌<◌, slice_index}
use Rattle.git_visits.specs.declared.view.Known.{Known}
use Rattle.git_visits.specs.declared.view.Post.TheVariants.{Held}
use Rattle.git_visits.specs.Visits.{record_at, HasNote}
use Rattle.git_visits.specs.Seats.{Holds, Extends}
use Rattle.git_table.proofs.visited.Visited.agrees.Given as goal

abbrev pub invariant-loop-j : goal.invariant-loop-j
invariant-loop-j g l = record {
  own : (l.seat.table_id ≡ l.fn.seat.table_id) × (l.seat.me.1 ≡ l.fn.seat.me.1);
  told : (v : Known g.row.G.Denot) → l.fn.seat.me.0 ≡ Held v → Holds l.seat (λ w. Extends v w × (w.spares ≡ v.spares) × ((i : ℕ) → i < l.j → HasNote w (record_at v.key l.q + i) (slice_index l.sig i)));
}
