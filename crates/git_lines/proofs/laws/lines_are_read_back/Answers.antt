use Rattle.git_lines.proofs.LineLemmas.{lines_back}
use Rattle.git_lines.proofs.laws.lines_are_read_back.Goals as goal

pub returns : goal.returns
returns c = lines_back
