use Rattle.git_defs.proofs.Lengths.{all_of_length}
use Rattle.git_geometry.proofs.Farkas.{farkas}
use Rattle.git_geometry.proofs.duality.vector_is_in_the_cone_or_separated.Goals as goal

pub returns : goal.returns
returns c = λ k vs x have e. farkas k vs x (all_of_length k vs have) e
