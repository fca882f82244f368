use Rattle.std.proofs.Common.{ℕ, ◌+◌, ◌<◌, [], ◌∷◌, true}
use Rattle.git_table.specs.Calls.{Sees}
use Rattle.git_table_tests.specs.Spokes.{IsCaller}
use Rattle.git_table_tests.proofs.table.offer_all.Given as goal

abbrev pub invariant-loop-i : goal.invariant-loop-i
invariant-loop-i l = record {
  caller : IsCaller l.frontier l.seat true;
  seen : (k : ℕ) → k < l.i → (q : ℕ) × Sees l.seat q ((k + 1) ∷ []);
}
