use Rattle.git_polytext.proofs.ExactLines.{line_takes}
use Rattle.git_polytext.proofs.laws.lines_read_are_lines.Goals as goal

pub returns : goal.returns
returns c = line_takes
