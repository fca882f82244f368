use Rattle.git_weight_replies.proofs.WeightAnswers.{one_answered}
use Rattle.git_weight_replies.proofs.laws.one_answer.Goals as goal

pub returns : goal.returns
returns c = one_answered
