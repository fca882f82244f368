use Rattle.git_check_laws.proofs.SomeAnswer.{some_answer}
use Rattle.git_check_laws.proofs.laws.check_has_an_answer.Goals as goal

pub returns : goal.returns
returns c = some_answer
