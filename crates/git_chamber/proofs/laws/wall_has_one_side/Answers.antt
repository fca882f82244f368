use Rattle.git_chamber.proofs.Uniqueness.{one_side}
use Rattle.git_chamber.proofs.laws.wall_has_one_side.Goals as goal

pub returns : goal.returns
returns c = one_side
