use Rattle.git_chamber.proofs.Inner.{cut_out, generated}
use Rattle.git_chamber.proofs.laws.chamber_is_described.Goals as goal

pub returns : goal.returns
returns c = λ fan sig rays facets weight is legal chamber. (generated fan sig is legal rays facets weight chamber, cut_out fan sig is legal rays facets weight chamber)
