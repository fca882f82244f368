use Rattle.git_assemble.proofs.Assembled.{listed_good}
use Rattle.git_assemble.proofs.laws.listed_is_good.Goals as goal

pub returns : goal.returns
returns c = λ fan first r l p. listed_good fan first r l p
