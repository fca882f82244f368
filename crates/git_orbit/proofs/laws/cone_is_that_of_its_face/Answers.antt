use Rattle.std.specs.Prelude.{Contains}
use Rattle.git_orbit.proofs.Fans.{cone_of_face}
use Rattle.git_orbit.proofs.laws.cone_is_that_of_its_face.Goals as goal

pub returns : goal.returns
returns c = λ k columns masks list i are low. cone_of_face k columns (Contains masks) list are i low
