use Rattle.git_weighted.proofs.WeightedTexts.{weighted_or_refusal}
use Rattle.git_weighted.proofs.laws.weighted_input_or_refusal.Goals as goal

pub returns : goal.returns
returns c = weighted_or_refusal
