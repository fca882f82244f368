use Rattle.std.proofs.Common.{◌≢◌}
use Rattle.git_lemmas.proofs.Members.{all_member}
use Rattle.git_defs.proofs.Lengths.{all_of_length}
use Rattle.git_defs.specs.Vectors.{Vector, zero_vector}
use Rattle.git_geometry.proofs.Inside.{inside_of_germ}
use Rattle.git_geometry.proofs.germs.held_germ_comes_inside.Goals as goal

pub returns : goal.returns
returns c = λ k normals germ have some ends holds. inside_of_germ k normals germ (all_of_length k normals have)
    (λ n m. all_member (λ (v : Vector). v ≢ zero_vector k) n normals some m) ends holds
