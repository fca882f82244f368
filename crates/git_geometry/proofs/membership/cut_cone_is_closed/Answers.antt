use Rattle.git_geometry.proofs.Cuts.{cut_closed}
use Rattle.git_geometry.proofs.membership.cut_cone_is_closed.Goals as goal

pub returns : goal.returns
returns c = cut_closed
