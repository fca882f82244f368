use Rattle.git_facecert.proofs.AnswerOnce.{one_answer}
use Rattle.git_facecert.proofs.laws.certificates_have_one_answer.Goals as goal

pub returns : goal.returns
returns c = one_answer
