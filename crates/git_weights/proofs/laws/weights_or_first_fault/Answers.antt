use Rattle.git_weights.proofs.Answers.{weights_or_fault}
use Rattle.git_weights.proofs.laws.weights_or_first_fault.Goals as goal

pub returns : goal.returns
returns c = weights_or_fault
