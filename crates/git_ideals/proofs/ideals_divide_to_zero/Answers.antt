use Rattle.git_ideals.proofs.Existence.{in_ideal_to_zero, zero_in_ideal}
use Rattle.git_ideals.proofs.ideals_divide_to_zero.Goals as goal

pub returns : goal.returns
returns c = λ members nonzero pairs p. (in_ideal_to_zero members nonzero pairs p, zero_in_ideal members p)
