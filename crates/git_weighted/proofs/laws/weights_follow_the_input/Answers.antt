use Rattle.git_weighted.proofs.WeightedTexts.{follows}
use Rattle.git_weighted.proofs.laws.weights_follow_the_input.Goals as goal

pub returns : goal.returns
returns c = follows
