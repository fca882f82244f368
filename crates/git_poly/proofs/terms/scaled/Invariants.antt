use Rattle.std.proofs.Common.{◌≡◌, take}
use Rattle.git_algebra.specs.Exponents.{one}
use Rattle.git_poly.specs.Terms.{sum_of}
use Rattle.git_poly.proofs.Shifting.{shift_reduced}
use Rattle.git_poly.proofs.terms.scaled.Given as goal

abbrev pub invariant-loop-t : goal.invariant-loop-t
invariant-loop-t l = sum_of l.out.items ≡ shift_reduced one l.c (sum_of (take l.t-index l.a))
