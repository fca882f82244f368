use Rattle.git_cone_faces.proofs.Faces.{faces_lists}
use Rattle.git_cone_faces.proofs.faces_are_known_by_their_rays.Goals as goal

pub returns : goal.returns
returns g c = λ k rays other_rays m n cut pointed r side other_cut other_pointed s other_side. faces_lists k g.C.VectorSet.holds g.D.VectorSet.holds rays other_rays m n
    cut pointed r side other_cut other_pointed s other_side
