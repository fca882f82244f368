use Rattle.git_top.proofs.Faultless.{no_answer_is_a_fault}
use Rattle.git_top.proofs.laws.no_answer_is_a_fault.Goals as goal

pub returns : goal.returns
returns c = no_answer_is_a_fault
