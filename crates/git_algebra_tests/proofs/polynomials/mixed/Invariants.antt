use Rattle.std.proofs.Common.{◌<◌, ℕ, get_or}
use Rattle.git_algebra.specs.Exponents.{Exponents}
use Rattle.git_poly.specs.Degrees.{IsGradedBy}
use Rattle.git_algebra_tests.proofs.polynomials.mixed.Given as goal

abbrev pub invariant-loop-i : goal.invariant-loop-i
invariant-loop-i l = (j : ℕ) (d : Exponents × ℕ) → j < l.i → IsGradedBy l.g.columns (get_or l.p.terms j d).0
