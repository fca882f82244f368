use Rattle.git_asked.specs.Asks.{Asks}
use Rattle.git_asked.proofs.Joined.{one_finding}
use Rattle.git_asked.proofs.laws.first_finding_is_one.Goals as goal

pub returns : goal.returns
returns c = λ fan first r l a b p q. one_finding (Asks fan first r l) a b p q
