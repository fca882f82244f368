use Rattle.std.proofs.Common.{◌≡◌, ◌+◌, length, None}
use Rattle.std.specs.List.{All}
use Rattle.git_table.specs.Calls.{IsOf}
use Rattle.git_table_tests.specs.Spokes.{IsCaller}
use Rattle.git_table_tests.proofs.table.joined.Given as goal

abbrev pub invariant-loop-other : goal.invariant-loop-other
invariant-loop-other l = record {
  of : IsOf l.fn.frontier l.seat;
  free : l.seat.hand ≡ None;
  places : l.seat.places + length l.callers.items ≡ length l.fn.callers.items;
  rest : All (λ m. IsCaller l.fn.frontier m.seat m.busy) l.callers.items;
}

abbrev pub decreases-loop-other : goal.decreases-loop-other
decreases-loop-other l = length l.callers.items
