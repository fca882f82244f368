use Rattle.git_defs.proofs.Lengths.{all_of_length}
use Rattle.git_geometry.proofs.Facets.{facets_rank}
use Rattle.git_geometry.proofs.duality.facets_have_full_rank.Goals as goal

pub returns : goal.returns
returns c = λ k vs facets have rank pointed f. facets_rank k vs facets (all_of_length k vs have) rank pointed f
