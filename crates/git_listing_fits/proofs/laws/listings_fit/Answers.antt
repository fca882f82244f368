use Rattle.git_listing_fits.proofs.Fits.{listing_fits}
use Rattle.git_listing_fits.proofs.laws.listings_fit.Goals as goal

pub returns : goal.returns
returns c = λ fan first r l is legal li some columns few. listing_fits fan is first legal r l li few some columns
