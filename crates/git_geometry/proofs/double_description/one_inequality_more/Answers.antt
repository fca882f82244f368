use Rattle.git_defs.proofs.Lengths.{all_of_length}
use Rattle.git_lemmas.proofs.Members.{member_contains}
use Rattle.git_geometry.proofs.Blends.{one_more}
use Rattle.git_geometry.proofs.double_description.one_inequality_more.Goals as goal

pub returns : goal.returns
returns g c = λ k b R closed have kept made x h side. one_more k g.D.VectorSet.holds closed b R (all_of_length k R have)
    (λ r m. kept r (member_contains r R m)) (λ r s m n. made r s (member_contains r R m) (member_contains s R n)) x h side
