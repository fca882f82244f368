use Rattle.git_weighted.proofs.WeightedTexts.{weighted_passes}
use Rattle.git_weighted.proofs.laws.weighted_inputs_are_not_refused.Goals as goal

pub returns : goal.returns
returns c = weighted_passes
