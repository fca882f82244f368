use Rattle.git_orbit.proofs.Walls.{walls_inside}
use Rattle.git_orbit.proofs.laws.walls_have_an_inside.Goals as goal

pub returns : goal.returns
returns c = walls_inside
