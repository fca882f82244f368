use Rattle.git_text.proofs.Totality.{input_or_fault}
use Rattle.git_text.proofs.laws.input_or_first_fault.Goals as goal

pub returns : goal.returns
returns c = input_or_fault
