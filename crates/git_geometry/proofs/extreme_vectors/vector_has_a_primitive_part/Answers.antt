use Rattle.git_geometry.proofs.Primitive.{primitive_part}
use Rattle.git_geometry.proofs.extreme_vectors.vector_has_a_primitive_part.Goals as goal

pub returns : goal.returns
returns c = primitive_part
