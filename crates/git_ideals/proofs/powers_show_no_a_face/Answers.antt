use Rattle.git_ideals.proofs.FaceProofs.{no_a_face}
use Rattle.git_ideals.proofs.powers_show_no_a_face.Goals as goal

pub returns : goal.returns
returns c = no_a_face
