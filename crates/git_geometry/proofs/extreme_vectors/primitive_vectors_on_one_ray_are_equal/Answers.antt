use Rattle.std.proofs.Common.{length, refl}
use Rattle.git_geometry.proofs.Primitive.{primitive_nonzero}
use Rattle.git_geometry.proofs.Rays.{length-on_ray, primitive_of_ray}
use Rattle.git_geometry.proofs.extreme_vectors.primitive_vectors_on_one_ray_are_equal.Goals as goal

pub returns : goal.returns
returns c = λ x y px py o. primitive_of_ray (length x) x y refl (primitive_nonzero (length x) y (length-on_ray x y o) py) px py o
