use Rattle.git_weights.proofs.Answers.{one_fault}
use Rattle.git_weights.proofs.laws.one_first_fault.Goals as goal

pub returns : goal.returns
returns c = one_fault
