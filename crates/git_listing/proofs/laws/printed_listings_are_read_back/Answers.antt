use Rattle.git_listing.proofs.ReadingLaws.{read_back}
use Rattle.git_listing.proofs.laws.printed_listings_are_read_back.Goals as goal

pub returns : goal.returns
returns c = read_back
