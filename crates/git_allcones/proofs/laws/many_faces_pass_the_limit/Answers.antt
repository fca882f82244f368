use Rattle.git_allcones.proofs.FaceLists.{many_exactly}
use Rattle.git_allcones.proofs.laws.many_faces_pass_the_limit.Goals as goal

pub returns : goal.returns
returns c = λ k cones faces all. many_exactly k cones faces all
