use Rattle.git_listing.proofs.ReadingLaws.{one_listing}
use Rattle.git_listing.proofs.laws.one_listing.Goals as goal

pub returns : goal.returns
returns c = one_listing
