use Rattle.git_ideals.proofs.FaceProofs.{divides_power}
use Rattle.git_ideals.proofs.monomials_divide_powers.Goals as goal

pub returns : goal.returns
returns c = divides_power
