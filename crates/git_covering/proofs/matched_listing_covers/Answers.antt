use Rattle.git_covering.proofs.Listed.{listing_covers}
use Rattle.git_covering.proofs.matched_listing_covers.Goals as goal

pub returns : goal.returns
returns c = λ fan first r l is legal has listing matched w inside. listing_covers fan is first r l legal has listing matched w inside
