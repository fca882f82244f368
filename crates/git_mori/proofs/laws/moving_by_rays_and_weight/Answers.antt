use Rattle.std.proofs.Common.{List, subst, sym}
use Rattle.git_defs.specs.Cones.{InCone}
use Rattle.git_defs.specs.Vectors.{Vector}
use Rattle.git_defs.proofs.Closed.{cone_closed}
use Rattle.git_defs.proofs.Lengths.{all_of_length}
use Rattle.git_lemmas.proofs.Members.{all_member}
use Rattle.git_minors.specs.Minors.{without}
use Rattle.git_minors.proofs.Places.{without_of_length}
use Rattle.git_cone_faces.proofs.Levels.{closed_sum}
use Rattle.git_mori.specs.Mov.{InMov}
use Rattle.git_mori.proofs.laws.moving_by_rays_and_weight.Goals as goal

pub returns : goal.returns
returns c = λ k columns chamber lengths weight. (
  λ moving. (
    λ i h. subst (InCone k (without i columns)) (sym weight)
        (closed_sum k (InCone k (without i columns)) chamber.rays (cone_closed k (without i columns) (without_of_length k i columns (all_of_length k columns lengths)))
        (λ v m. all_member (InMov k columns) v chamber.rays moving m i h)),
    moving,
  ),
  λ both. both.1,
)
