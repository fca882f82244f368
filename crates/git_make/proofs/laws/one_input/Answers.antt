use Rattle.git_make.proofs.Inputs.{one_input}
use Rattle.git_make.proofs.laws.one_input.Goals as goal

pub returns : goal.returns
returns c = one_input
