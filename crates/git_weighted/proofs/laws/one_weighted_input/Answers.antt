use Rattle.git_weighted.proofs.WeightedTexts.{one_weighted}
use Rattle.git_weighted.proofs.laws.one_weighted_input.Goals as goal

pub returns : goal.returns
returns c = one_weighted
