use Rattle.std.proofs.Common.{◌≡◌, ◌<◌, ◌≤◌, ℕ, length}
use Rattle.git_algebra.specs.Exponents.{exponent}
use Rattle.git_algebra_tests.proofs.polynomials.is_graded.Given as goal

abbrev pub invariant-loop-i : goal.invariant-loop-i
invariant-loop-i l = record {
  within : l.i ≤ 17;
  small : (j : ℕ) → j < l.i → exponent l.m j ≤ 64;
  none_past : (j : ℕ) → j < l.i → length l.g.columns ≤ j → exponent l.m j ≡ 0;
}
