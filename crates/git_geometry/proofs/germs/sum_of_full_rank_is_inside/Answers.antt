use Rattle.std.proofs.Common.{◌≢◌}
use Rattle.git_lemmas.proofs.Members.{all_member}
use Rattle.git_defs.proofs.Lengths.{all_of_length}
use Rattle.git_defs.specs.Vectors.{Vector, zero_vector}
use Rattle.git_geometry.proofs.Inside.{sum_inside}
use Rattle.git_geometry.proofs.germs.sum_of_full_rank_is_inside.Goals as goal

pub returns : goal.returns
returns c = λ k vs normals have rank normals_have some beside. sum_inside k vs normals (all_of_length k vs have) rank
    (all_of_length k normals normals_have) (λ n m. all_member (λ (v : Vector). v ≢ zero_vector k) n normals some m) beside
