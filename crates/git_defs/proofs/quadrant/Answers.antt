use Rattle.git_defs.proofs.PlaneRays.{quadrant_rays}
use Rattle.git_defs.proofs.quadrant.Goals as goal

pub returns : goal.returns
returns c = quadrant_rays
