use Rattle.git_weight_replies.proofs.WeightAnswers.{listed_some}
use Rattle.git_weight_replies.proofs.laws.listed_weights_have_some_answer.Goals as goal

pub returns : goal.returns
returns c = listed_some
