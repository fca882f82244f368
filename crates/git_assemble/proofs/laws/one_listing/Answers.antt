use Rattle.git_assemble.proofs.OneListing.{one_listing}
use Rattle.git_assemble.proofs.laws.one_listing.Goals as goal

pub returns : goal.returns
returns c = λ fan first r a b p q. one_listing fan first r a b p q
