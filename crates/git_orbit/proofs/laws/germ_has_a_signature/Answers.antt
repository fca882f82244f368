use Rattle.git_orbit.proofs.Existence.{a_signature}
use Rattle.git_orbit.proofs.laws.germ_has_a_signature.Goals as goal

pub returns : goal.returns
returns c = a_signature
