use Rattle.git_check_laws.proofs.OneAnswer.{one_answer}
use Rattle.git_check_laws.proofs.laws.check_has_one_answer.Goals as goal

pub returns : goal.returns
returns c = λ v l bs a b g version. one_answer v l bs g version a b
