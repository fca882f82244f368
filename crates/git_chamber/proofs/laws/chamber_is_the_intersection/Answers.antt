use Rattle.git_chamber.proofs.Shared.{intersection}
use Rattle.git_chamber.proofs.laws.chamber_is_the_intersection.Goals as goal

pub returns : goal.returns
returns c = λ fan sig rays facets weight is legal chamber. intersection fan is sig rays facets weight legal chamber
