use Rattle.git_ideals.proofs.FaceProofs.{a_face}
use Rattle.git_ideals.proofs.members_show_a_face.Goals as goal

pub returns : goal.returns
returns c = a_face
