use Rattle.git_listing_fits.proofs.Counts.{few_chambers}
use Rattle.git_listing_fits.proofs.laws.chambers_are_reached.Goals as goal

pub returns : goal.returns
returns c = λ fan first r cap l li fits. few_chambers fan first r l li cap fits
