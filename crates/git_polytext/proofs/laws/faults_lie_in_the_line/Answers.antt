use Rattle.git_polytext.proofs.FaultKinds.{line_tells}
use Rattle.git_polytext.proofs.laws.faults_lie_in_the_line.Goals as goal

pub returns : goal.returns
returns c = line_tells
