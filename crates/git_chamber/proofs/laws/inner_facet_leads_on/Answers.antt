use Rattle.git_chamber.proofs.Inner.{inner_leads_on}
use Rattle.git_chamber.proofs.laws.inner_facet_leads_on.Goals as goal

pub returns : goal.returns
returns c = inner_leads_on
