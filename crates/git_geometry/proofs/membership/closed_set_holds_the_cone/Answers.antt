use Rattle.git_defs.proofs.Closed.{closed_cone}
use Rattle.git_lemmas.proofs.Members.{all_member}
use Rattle.git_geometry.proofs.membership.closed_set_holds_the_cone.Goals as goal

pub returns : goal.returns
returns g c = λ k vs closed all x h. closed_cone k g.D.VectorSet.holds vs x closed (λ v m. all_member g.D.VectorSet.holds v vs all m) h
