use Rattle.git_orbit.proofs.Signatures.{around_is_member}
use Rattle.git_orbit.proofs.laws.cone_around_the_chamber_is_member.Goals as goal

pub returns : goal.returns
returns c = around_is_member
