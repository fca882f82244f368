use Rattle.git_ideals.proofs.Buchberger.{buchberger}
use Rattle.git_ideals.proofs.buchberger_criterion.Goals as goal

pub returns : goal.returns
returns c = buchberger
