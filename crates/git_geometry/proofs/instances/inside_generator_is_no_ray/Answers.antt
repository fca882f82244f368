use Rattle.git_geometry.proofs.Examples.{inside_rays}
use Rattle.git_geometry.proofs.instances.inside_generator_is_no_ray.Goals as goal

pub returns : goal.returns
returns c = inside_rays
