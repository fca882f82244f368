use Rattle.git_lines.proofs.LineLemmas.{with_return}
use Rattle.git_lines.proofs.laws.carriage_return_ends_the_line.Goals as goal

pub returns : goal.returns
returns c = with_return
