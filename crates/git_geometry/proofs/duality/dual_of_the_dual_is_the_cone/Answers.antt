use Rattle.git_defs.proofs.Lengths.{all_of_length}
use Rattle.git_geometry.proofs.Facets.{dual_of_dual}
use Rattle.git_geometry.proofs.duality.dual_of_the_dual_is_the_cone.Goals as goal

pub returns : goal.returns
returns c = λ k vs have. dual_of_dual k vs (all_of_length k vs have)
