use Rattle.git_cone_replies.proofs.AllAnswers.{some_answered}
use Rattle.git_cone_replies.proofs.laws.some_answer.Goals as goal

pub returns : goal.returns
returns c = some_answered
