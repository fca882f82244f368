use Rattle.std.specs.Prelude.{Contains}
use Rattle.git_orbit.proofs.Settled.{fault_once}
use Rattle.git_orbit.proofs.laws.wide_mask_is_one.Goals as goal

pub returns : goal.returns
returns c = λ k columns masks. fault_once k columns (Contains masks)
