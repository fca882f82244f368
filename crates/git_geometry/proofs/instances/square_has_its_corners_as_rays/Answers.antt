use Rattle.git_geometry.proofs.Examples.{square_rays}
use Rattle.git_geometry.proofs.instances.square_has_its_corners_as_rays.Goals as goal

pub returns : goal.returns
returns c = square_rays
