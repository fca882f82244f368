use Rattle.git_text.proofs.Fronts.{front_faults}
use Rattle.git_text.proofs.laws.front_faults_are_faults.Goals as goal

pub returns : goal.returns
returns c = front_faults
