use Rattle.git_polytext.proofs.ExactLines.{one_value}
use Rattle.git_polytext.proofs.laws.lines_have_one_value.Goals as goal

pub returns : goal.returns
returns c = one_value
