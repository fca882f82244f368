use Rattle.git_text.proofs.LaterLines.{later_lines}
use Rattle.git_text.proofs.laws.later_lines_do_not_matter.Goals as goal

pub returns : goal.returns
returns c = later_lines
