use Rattle.git_allcones.proofs.FaceLists.{one_list}
use Rattle.git_allcones.proofs.laws.list_of_faces_is_one.Goals as goal

pub returns : goal.returns
returns c = λ k cones faces others p q. one_list k cones faces others p q
