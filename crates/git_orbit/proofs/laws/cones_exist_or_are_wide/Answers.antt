use Rattle.git_orbit.proofs.Settled.{cones_or_wide}
use Rattle.git_orbit.proofs.laws.cones_exist_or_are_wide.Goals as goal

pub returns : goal.returns
returns c = cones_or_wide
