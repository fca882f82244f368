use Rattle.git_cone_faces.proofs.Faces.{face_generated}
use Rattle.git_cone_faces.proofs.face_is_generated.Goals as goal

pub returns : goal.returns
returns g c = λ k rays n cut pointed r side. face_generated k g.C.VectorSet.holds rays n cut pointed r side
