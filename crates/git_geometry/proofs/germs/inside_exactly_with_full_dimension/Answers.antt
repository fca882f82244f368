use Rattle.std.proofs.Common.{◌≢◌}
use Rattle.git_lemmas.proofs.Members.{all_member}
use Rattle.git_defs.proofs.Lengths.{all_of_length}
use Rattle.git_defs.specs.Vectors.{Vector, zero_vector}
use Rattle.git_geometry.proofs.Inside.{inside_where}
use Rattle.git_geometry.proofs.Minkowski.{generates_of_same}
use Rattle.git_geometry.proofs.germs.inside_exactly_with_full_dimension.Goals as goal

pub returns : goal.returns
returns c = λ k normals vs normals_have some have same. inside_where k normals vs (all_of_length k normals normals_have)
    (λ n m. all_member (λ (v : Vector). v ≢ zero_vector k) n normals some m) (generates_of_same k normals vs (all_of_length k vs have) same)
