use Rattle.git_lines.proofs.FirstLine.{lines_make}
use Rattle.git_lines.proofs.laws.lines_make_the_text.Goals as goal

pub returns : goal.returns
returns c = lines_make
