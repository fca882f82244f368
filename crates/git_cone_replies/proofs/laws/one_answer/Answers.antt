use Rattle.git_cone_replies.proofs.AllAnswers.{one_answered}
use Rattle.git_cone_replies.proofs.laws.one_answer.Goals as goal

pub returns : goal.returns
returns c = one_answered
