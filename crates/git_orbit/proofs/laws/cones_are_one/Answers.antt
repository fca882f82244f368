use Rattle.std.specs.Prelude.{Contains}
use Rattle.git_orbit.proofs.Settled.{cones_once}
use Rattle.git_orbit.proofs.laws.cones_are_one.Goals as goal

pub returns : goal.returns
returns c = λ k columns masks. cones_once k columns (Contains masks)
