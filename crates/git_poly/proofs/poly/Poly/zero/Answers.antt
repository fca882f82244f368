use Rattle.std.proofs.Common.{refl}
use Rattle.git_algebra.specs.Operations.{zero_polynomial}
use Rattle.git_poly.proofs.poly.Poly.zero.Goals as goal

pub returns : goal.returns
unfolding zero_polynomial
returns c = rw c.new.ensures.items refl
