use Rattle.git_defs.proofs.Closed.{cone_closed}
use Rattle.git_defs.proofs.Lengths.{all_of_length}
use Rattle.git_defs.proofs.cone_multiples.Goals as goal

pub returns : goal.returns
returns c = λ k vs c x have. (cone_closed k vs (all_of_length k vs have)).multiples c x
