use Rattle.git_text.proofs.ReadBackInputs.{input_back}
use Rattle.git_text.proofs.laws.written_inputs_are_read_back.Goals as goal

pub returns : goal.returns
returns c = input_back
