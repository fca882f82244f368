use Rattle.std.proofs.Common.{◌≡◌, ◌≤◌, ℕ}
use Rattle.git_algebra.specs.Exponents.{exponent}
use Rattle.git_mono.proofs.order.DegRevLexMonomialOrder.compare.Given as goal

abbrev pub invariant-loop-i : goal.invariant-loop-i
invariant-loop-i l = record {
  within : l.i ≤ 17;
  same : (k : ℕ) → l.i ≤ k → exponent l.a k ≡ exponent l.b k;
}
