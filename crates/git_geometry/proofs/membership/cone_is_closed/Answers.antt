use Rattle.git_defs.proofs.Closed.{cone_closed}
use Rattle.git_defs.proofs.Lengths.{all_of_length}
use Rattle.git_geometry.proofs.membership.cone_is_closed.Goals as goal

pub returns : goal.returns
returns c = λ k vs have. cone_closed k vs (all_of_length k vs have)
