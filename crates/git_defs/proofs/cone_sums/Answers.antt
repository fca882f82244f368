use Rattle.git_defs.proofs.Sums.{cone_plus}
use Rattle.git_defs.proofs.Lengths.{all_of_length}
use Rattle.git_defs.proofs.cone_sums.Goals as goal

pub returns : goal.returns
returns c = λ k vs x y have. cone_plus k vs x y (all_of_length k vs have)
