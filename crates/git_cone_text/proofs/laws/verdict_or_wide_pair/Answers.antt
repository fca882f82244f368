use Rattle.git_cone_text.proofs.Once.{not_both}
use Rattle.git_cone_text.proofs.laws.verdict_or_wide_pair.Goals as goal

pub returns : goal.returns
returns c = not_both
