use Rattle.git_geometry.proofs.Minkowski.{minkowski_generated}
use Rattle.git_geometry.proofs.duality.cut_cone_is_generated.Goals as goal

pub returns : goal.returns
returns c = minkowski_generated
