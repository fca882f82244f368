use Rattle.git_listing.proofs.Olds.{old_fits}
use Rattle.git_listing.proofs.laws.old_fits_its_version.Goals as goal

pub returns : goal.returns
returns c = λ l. old_fits l
