use Rattle.git_top.proofs.Complete.{faces_are_done}
use Rattle.git_top.proofs.laws.faces_are_done.Goals as goal

pub returns : goal.returns
returns c = faces_are_done
