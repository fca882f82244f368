use Rattle.git_bunch_replies.proofs.Replied.{some_told}
use Rattle.git_bunch_replies.proofs.laws.some_answer.Goals as goal

pub returns : goal.returns
returns c = some_told
