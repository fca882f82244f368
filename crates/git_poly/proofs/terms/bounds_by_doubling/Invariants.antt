use Rattle.std.proofs.Common.{ℕ, ◌≡◌, ◌<◌, ◌≤◌, ◌-◌, length, Some}
use Rattle.std.specs.Prelude.{slice_get}
use Rattle.git_algebra.specs.Order.{rank}
use Rattle.git_poly.specs.declared.term.Term.{Term}
use Rattle.git_poly.proofs.terms.bounds_by_doubling.Given as goal

abbrev pub invariant-loop-step : goal.invariant-loop-step
invariant-loop-step l = record {
  later : l.start ≤ l.low;
  within : l.low ≤ length l.a;
  some : 0 < l.step;
  above : (k : ℕ) (t : Term) → l.start ≤ k → k < l.low → slice_get l.a k ≡ Some t → rank l.m < rank t.mono;
}

abbrev pub decreases-loop-step : goal.decreases-loop-step
decreases-loop-step l = length l.a - l.low
