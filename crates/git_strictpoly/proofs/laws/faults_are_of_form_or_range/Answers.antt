use Rattle.git_strictpoly.proofs.Faults.{faults_known}
use Rattle.git_strictpoly.proofs.laws.faults_are_of_form_or_range.Goals as goal

pub returns : goal.returns
returns c = faults_known
