use Rattle.git_weight_replies.proofs.WeightAnswers.{listed_one}
use Rattle.git_weight_replies.proofs.laws.listed_weights_have_one_answer.Goals as goal

pub returns : goal.returns
returns c = listed_one
