use Rattle.git_bunch.proofs.Sides.{one_number}
use Rattle.git_bunch.proofs.laws.face_has_one_number.Goals as goal

pub returns : goal.returns
returns c = one_number
