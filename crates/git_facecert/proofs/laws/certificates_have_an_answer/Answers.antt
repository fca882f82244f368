use Rattle.git_facecert.proofs.SomeAnswer.{some_answer}
use Rattle.git_facecert.proofs.laws.certificates_have_an_answer.Goals as goal

pub returns : goal.returns
returns c = some_answer
