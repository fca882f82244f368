use Rattle.git_listing_fits.proofs.Chambers.{few_facets}
use Rattle.git_listing_fits.proofs.laws.facets_are_few.Goals as goal

pub returns : goal.returns
returns c = λ fan sig facets is full are. few_facets fan sig is full facets are
