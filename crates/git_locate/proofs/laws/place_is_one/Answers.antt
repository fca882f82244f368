use Rattle.git_locate.proofs.Once.{one_place}
use Rattle.git_locate.proofs.laws.place_is_one.Goals as goal

pub returns : goal.returns
returns c = λ fan l w p q some a b. one_place fan l w some p q a b
