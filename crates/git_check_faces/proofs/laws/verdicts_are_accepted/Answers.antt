use Rattle.git_check_faces.proofs.Exact.{verdicts_accepted}
use Rattle.git_check_faces.proofs.laws.verdicts_are_accepted.Goals as goal

pub returns : goal.returns
returns c = verdicts_accepted
