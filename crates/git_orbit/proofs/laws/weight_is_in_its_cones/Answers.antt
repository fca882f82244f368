use Rattle.git_orbit.proofs.Walls.{weight_in}
use Rattle.git_orbit.proofs.laws.weight_is_in_its_cones.Goals as goal

pub returns : goal.returns
returns c = weight_in
