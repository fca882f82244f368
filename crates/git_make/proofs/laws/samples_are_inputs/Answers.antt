use Rattle.git_make.proofs.Inputs.{samples_are_inputs}
use Rattle.git_make.proofs.laws.samples_are_inputs.Goals as goal

pub returns : goal.returns
returns c = samples_are_inputs
