use Rattle.git_cone_text.proofs.Decides.{answered}
use Rattle.git_cone_text.proofs.laws.verdict_is_decided.Goals as goal

pub returns : goal.returns
returns c = answered
