use Rattle.git_check_replies.proofs.OneText.{answer_plain}
use Rattle.git_check_replies.proofs.laws.answers_are_plain.Goals as goal

pub returns : goal.returns
returns c = answer_plain
