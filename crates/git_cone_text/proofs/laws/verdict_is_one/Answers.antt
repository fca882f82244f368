use Rattle.git_cone_text.proofs.Once.{verdict_once}
use Rattle.git_cone_text.proofs.laws.verdict_is_one.Goals as goal

pub returns : goal.returns
returns c = verdict_once
