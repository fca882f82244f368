use Rattle.git_check_replies.proofs.OneText.{one_answer}
use Rattle.git_check_replies.proofs.laws.one_answer.Goals as goal

pub returns : goal.returns
returns c = one_answer
