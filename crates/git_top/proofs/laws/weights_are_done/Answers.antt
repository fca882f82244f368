use Rattle.git_top.proofs.Complete.{weights_are_done}
use Rattle.git_top.proofs.laws.weights_are_done.Goals as goal

pub returns : goal.returns
returns c = weights_are_done
