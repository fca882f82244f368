use Rattle.git_chamber.proofs.Existence.{side_exists}
use Rattle.git_chamber.proofs.laws.wall_has_a_side.Goals as goal

pub returns : goal.returns
returns c = side_exists
