use Rattle.git_orbit.proofs.Signatures.{same_chamber}
use Rattle.git_orbit.proofs.laws.chamber_has_one_signature.Goals as goal

pub returns : goal.returns
returns c = same_chamber
