use Rattle.git_degrees.proofs.OneDegree.{found}
use Rattle.git_degrees.proofs.laws.monomials_apart_are_found.Goals as goal

pub returns : goal.returns
returns c = found
