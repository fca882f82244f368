use Rattle.git_make.proofs.Inputs.{some_input}
use Rattle.git_make.proofs.laws.some_input.Goals as goal

pub returns : goal.returns
returns c = some_input
