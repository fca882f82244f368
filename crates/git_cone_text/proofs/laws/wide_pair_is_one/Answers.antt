use Rattle.git_cone_text.proofs.Once.{wide_pair_once}
use Rattle.git_cone_text.proofs.laws.wide_pair_is_one.Goals as goal

pub returns : goal.returns
returns c = wide_pair_once
