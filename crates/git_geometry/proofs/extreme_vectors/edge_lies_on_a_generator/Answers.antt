use Rattle.git_defs.proofs.Closed.{cone_closed, cone_has}
use Rattle.git_defs.proofs.Lengths.{all_of_length}
use Rattle.git_defs.specs.Cones.{InCone}
use Rattle.git_geometry.proofs.Rays.{ray_of_generator}
use Rattle.git_geometry.proofs.extreme_vectors.edge_lies_on_a_generator.Goals as goal

pub returns : goal.returns
returns c = λ k vs x have edge. ray_of_generator k (InCone k vs) vs x (cone_closed k vs (all_of_length k vs have))
    (λ v m. cone_has k vs v (all_of_length k vs have) m) edge edge.member
