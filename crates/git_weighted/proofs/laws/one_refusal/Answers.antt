use Rattle.git_weighted.proofs.WeightedTexts.{refusal_one}
use Rattle.git_weighted.proofs.laws.one_refusal.Goals as goal

pub returns : goal.returns
returns c = refusal_one
