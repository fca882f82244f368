use Rattle.git_text.proofs.Fronts.{written_in_front}
use Rattle.git_text.proofs.laws.written_inputs_are_read_in_front.Goals as goal

pub returns : goal.returns
returns c = written_in_front
