use Rattle.git_top.proofs.Complete.{cones_are_done}
use Rattle.git_top.proofs.laws.cones_are_done.Goals as goal

pub returns : goal.returns
returns c = cones_are_done
