use Rattle.git_geometry.proofs.Facets.{exact_extreme}
use Rattle.git_geometry.proofs.double_description.exact_list_has_the_extreme_vectors.Goals as goal

pub returns : goal.returns
returns c = exact_extreme
