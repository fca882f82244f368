use Rattle.git_top.proofs.Complete.{bunches_are_done}
use Rattle.git_top.proofs.laws.bunches_are_done.Goals as goal

pub returns : goal.returns
returns c = bunches_are_done
