use Rattle.git_chamber.proofs.Inner.{weight_inside}
use Rattle.git_chamber.proofs.laws.weight_is_inside.Goals as goal

pub returns : goal.returns
returns c = λ fan sig rays facets weight is legal chamber. weight_inside fan sig is legal rays facets weight chamber
