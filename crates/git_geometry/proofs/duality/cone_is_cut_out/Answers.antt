use Rattle.git_defs.proofs.Lengths.{all_of_length}
use Rattle.git_geometry.proofs.Minkowski.{weyl}
use Rattle.git_geometry.proofs.duality.cone_is_cut_out.Goals as goal

pub returns : goal.returns
returns c = λ k vs have. weyl k vs (all_of_length k vs have)
