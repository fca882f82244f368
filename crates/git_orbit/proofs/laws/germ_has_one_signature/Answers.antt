use Rattle.git_orbit.proofs.Signatures.{one_signature}
use Rattle.git_orbit.proofs.laws.germ_has_one_signature.Goals as goal

pub returns : goal.returns
returns c = one_signature
