use Rattle.git_defs.proofs.Cuts.{cut_is_dual}
use Rattle.git_defs.proofs.cut_cone.Goals as goal

pub returns : goal.returns
returns c = cut_is_dual
