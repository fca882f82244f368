use Rattle.git_defs.proofs.Lengths.{all_of_length}
use Rattle.git_defs.specs.Cones.{Cut, InCone}
use Rattle.git_geometry.proofs.Minkowski.{generates_of_same, normals_cut}
use Rattle.git_geometry.proofs.Rays.{same_back}
use Rattle.git_geometry.proofs.duality.normals_cut_out_the_cone.Goals as goal

pub returns : goal.returns
returns c = λ k vs ns have ns_have same. same_back (InCone k vs) (Cut k ns)
    (normals_cut k vs ns (all_of_length k vs have) (generates_of_same k vs ns (all_of_length k ns ns_have) same))
