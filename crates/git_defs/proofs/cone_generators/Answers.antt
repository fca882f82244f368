use Rattle.git_defs.proofs.Closed.{cone_has}
use Rattle.git_defs.proofs.Lengths.{all_of_length}
use Rattle.git_lemmas.proofs.Members.{contains_member}
use Rattle.git_defs.proofs.cone_generators.Goals as goal

pub returns : goal.returns
returns c = λ k vs x have c. cone_has k vs x (all_of_length k vs have) (contains_member x vs c)
