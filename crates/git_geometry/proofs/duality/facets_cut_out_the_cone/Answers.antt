use Rattle.git_defs.proofs.Lengths.{all_of_length}
use Rattle.git_geometry.proofs.Facets.{facets_same}
use Rattle.git_geometry.proofs.duality.facets_cut_out_the_cone.Goals as goal

pub returns : goal.returns
returns c = λ k vs facets have rank f. facets_same k vs facets (all_of_length k vs have) rank f
