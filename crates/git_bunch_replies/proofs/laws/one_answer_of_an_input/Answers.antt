use Rattle.git_bunch_replies.proofs.Replied.{one_of_input}
use Rattle.git_bunch_replies.proofs.laws.one_answer_of_an_input.Goals as goal

pub returns : goal.returns
returns c = one_of_input
