use Rattle.git_weight_replies.proofs.WeightAnswers.{some_answered}
use Rattle.git_weight_replies.proofs.laws.some_answer.Goals as goal

pub returns : goal.returns
returns c = some_answered
