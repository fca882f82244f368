use Rattle.git_listing.proofs.ReadingLaws.{may_be_printed}
use Rattle.git_listing.proofs.laws.listings_within_limits_may_be_printed.Goals as goal

pub returns : goal.returns
returns c = may_be_printed
