use Rattle.std.proofs.Common.{◌≡◌, ◌+◌, length, None}
use Rattle.std.specs.List.{All}
use Rattle.git_table.specs.Calls.{IsOf}
use Rattle.git_table_tests.specs.Spokes.{IsCaller}
use Rattle.git_table_tests.proofs.table.callers.Given as goal

abbrev pub invariant-loop-k : goal.invariant-loop-k
invariant-loop-k l = record {
  of : IsOf l.frontier l.seat;
  places : l.seat.places + l._k ≡ l.workers + 1;
  free : l.seat.hand ≡ None;
  long : length l.all.items + 1 ≡ l._k;
  ready : All (λ m. IsCaller l.frontier m.seat m.busy) l.all.items;
}
