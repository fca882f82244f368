use Rattle.git_orbit.proofs.Signatures.{chamber_holds_germ}
use Rattle.git_orbit.proofs.laws.chamber_holds_its_germ.Goals as goal

pub returns : goal.returns
returns c = chamber_holds_germ
