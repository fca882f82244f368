use Rattle.std.proofs.Common.{ℕ, ◌<◌}
use Rattle.git_ideals.specs.Division.{member}
use Rattle.git_facecert.specs.Certificates.{IsCofactor}
use Rattle.git_facecert.proofs.monomial.first_other.Given as goal

abbrev pub invariant-loop-i : goal.invariant-loop-i
invariant-loop-i l = (k : ℕ) → k < l.i → IsCofactor l.mask (member l.cofactors k)
