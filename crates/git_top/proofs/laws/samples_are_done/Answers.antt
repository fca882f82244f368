use Rattle.git_top.proofs.Complete.{samples_are_done}
use Rattle.git_top.proofs.laws.samples_are_done.Goals as goal

pub returns : goal.returns
returns c = samples_are_done
