use Rattle.git_defs.proofs.Lengths.{all_of_length}
use Rattle.git_geometry.proofs.Facets.{rays_rank}
use Rattle.git_geometry.proofs.extreme_vectors.extreme_vectors_have_full_rank.Goals as goal

pub returns : goal.returns
returns c = λ k vs rays have rank pointed r. rays_rank k vs rays (all_of_length k vs have) rank pointed r
