use Rattle.git_geometry.proofs.Examples.{quadrant_facets}
use Rattle.git_geometry.proofs.instances.quadrant_has_unit_facets.Goals as goal

pub returns : goal.returns
returns c = quadrant_facets
