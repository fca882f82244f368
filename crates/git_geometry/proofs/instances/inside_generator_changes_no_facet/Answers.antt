use Rattle.git_geometry.proofs.Examples.{inside_facets}
use Rattle.git_geometry.proofs.instances.inside_generator_changes_no_facet.Goals as goal

pub returns : goal.returns
returns c = inside_facets
