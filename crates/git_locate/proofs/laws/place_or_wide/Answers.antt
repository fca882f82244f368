use Rattle.git_locate.proofs.Existing.{told}
use Rattle.git_locate.proofs.laws.place_or_wide.Goals as goal

pub returns : goal.returns
returns c = told
