use Rattle.git_text.proofs.FaultPlaces.{fault_lies}
use Rattle.git_text.proofs.laws.faults_lie_in_the_text.Goals as goal

pub returns : goal.returns
returns c = fault_lies
