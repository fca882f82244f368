use Rattle.git_bunch_replies.proofs.Replied.{some_of_input}
use Rattle.git_bunch_replies.proofs.laws.some_answer_of_an_input.Goals as goal

pub returns : goal.returns
returns c = some_of_input
