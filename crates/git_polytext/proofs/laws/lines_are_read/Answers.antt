use Rattle.git_polytext.proofs.ExactLines.{line_again}
use Rattle.git_polytext.proofs.laws.lines_are_read.Goals as goal

pub returns : goal.returns
returns c = line_again
