use Rattle.std.proofs.Common.{◌≡◌, ℕ, ◌-◌, List}
use Rattle.git_visits.specs.declared.view.Known.{Known}
use Rattle.git_visits.specs.declared.view.Post.TheVariants.{Held}
use Rattle.git_table.specs.Takes.{Looks, Scanned}
use Rattle.git_table.proofs.visited.Visited.take.Given as goal

abbrev pub invariant-loop-k : goal.invariant-loop-k
invariant-loop-k g l = record {
  own : (l.seat.table_id ≡ l.fn.seat.table_id) × (l.seat.me.1 ≡ l.fn.seat.me.1);
  told : (v : Known g.row.G.Denot) → l.fn.seat.me.0 ≡ Held v → (added : List (ℕ × ℕ)) × Scanned v l.bound (l.top - l.k) added × (l.seat.me.0 ≡ Held (Looks v added));
}
