use Rattle.git_weight_replies.proofs.WeightAnswers.{some_cone}
use Rattle.git_weight_replies.proofs.laws.listed_inputs_have_cones.Goals as goal

pub returns : goal.returns
returns c = λ v fan graded passes is. some_cone v graded fan passes is
