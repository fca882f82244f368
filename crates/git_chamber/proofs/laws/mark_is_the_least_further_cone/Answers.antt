use Rattle.git_chamber.proofs.Shared.{mark_is_least}
use Rattle.git_chamber.proofs.laws.mark_is_the_least_further_cone.Goals as goal

pub returns : goal.returns
returns c = λ fan sig rays facets weight crossed n is legal chamber mark. mark_is_least fan is sig rays facets weight legal chamber crossed n mark
