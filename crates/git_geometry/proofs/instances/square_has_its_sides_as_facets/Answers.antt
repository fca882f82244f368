use Rattle.git_geometry.proofs.Examples.{square_facets}
use Rattle.git_geometry.proofs.instances.square_has_its_sides_as_facets.Goals as goal

pub returns : goal.returns
returns c = square_facets
