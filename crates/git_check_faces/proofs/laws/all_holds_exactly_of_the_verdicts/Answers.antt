use Rattle.git_check_faces.proofs.Exact.{exactly}
use Rattle.git_check_faces.proofs.laws.all_holds_exactly_of_the_verdicts.Goals as goal

pub returns : goal.returns
returns c = exactly
