use Rattle.git_listing.proofs.ReadingLaws.{no_fault_of}
use Rattle.git_listing.proofs.laws.listings_have_no_fault.Goals as goal

pub returns : goal.returns
returns c = no_fault_of
