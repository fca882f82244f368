use Rattle.git_asked.proofs.Families.{exactly}
use Rattle.git_asked.proofs.laws.all_holds_exactly_of_the_listing.Goals as goal

pub returns : goal.returns
returns c = exactly
