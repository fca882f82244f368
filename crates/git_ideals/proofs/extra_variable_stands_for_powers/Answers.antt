use Rattle.git_ideals.proofs.FaceProofs.{extra_variable}
use Rattle.git_ideals.proofs.extra_variable_stands_for_powers.Goals as goal

pub returns : goal.returns
returns c = extra_variable
