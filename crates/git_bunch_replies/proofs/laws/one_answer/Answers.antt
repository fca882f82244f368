use Rattle.git_bunch_replies.proofs.Replied.{one_told}
use Rattle.git_bunch_replies.proofs.laws.one_answer.Goals as goal

pub returns : goal.returns
returns c = one_told
