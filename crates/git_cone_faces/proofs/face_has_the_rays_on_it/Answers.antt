use Rattle.git_cone_faces.proofs.Faces.{face_rays}
use Rattle.git_cone_faces.proofs.face_has_the_rays_on_it.Goals as goal

pub returns : goal.returns
returns g c = λ k rays n entries r side. face_rays k g.C.VectorSet.holds rays n entries r side
