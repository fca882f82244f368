use Rattle.std.proofs.Common.{◌≡◌, take}
use Rattle.std.specs.Prelude.{filter}
use Rattle.git_algebra.specs.Exponents.{in_face}
use Rattle.git_poly.specs.Terms.{sum_of}
use Rattle.git_poly.proofs.terms.kept.Given as goal

abbrev pub invariant-loop-t : goal.invariant-loop-t
invariant-loop-t l = sum_of l.out.items ≡ filter (λ t. in_face l.mask t.0) (sum_of (take l.t-index l.a))
