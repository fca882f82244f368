use Rattle.git_orbit.proofs.Walls.{first_germ_held}
use Rattle.git_orbit.proofs.laws.first_germ_is_held.Goals as goal

pub returns : goal.returns
returns c = first_germ_held
