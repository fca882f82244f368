use Rattle.git_chamber.proofs.Inner.{rays_tell}
use Rattle.git_chamber.proofs.laws.rays_tell_the_signature.Goals as goal

pub returns : goal.returns
returns c = rays_tell
