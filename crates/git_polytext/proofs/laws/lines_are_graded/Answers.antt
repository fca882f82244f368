use Rattle.git_polytext.proofs.Graded.{lines_graded}
use Rattle.git_polytext.proofs.laws.lines_are_graded.Goals as goal

pub returns : goal.returns
returns c = lines_graded
