use Rattle.git_listing.proofs.ReadingLaws.{listing_or_fault}
use Rattle.git_listing.proofs.laws.listing_or_first_fault.Goals as goal

pub returns : goal.returns
returns c = listing_or_fault
