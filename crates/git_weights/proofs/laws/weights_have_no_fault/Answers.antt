use Rattle.git_weights.proofs.Answers.{no_fault}
use Rattle.git_weights.proofs.laws.weights_have_no_fault.Goals as goal

pub returns : goal.returns
returns c = no_fault
