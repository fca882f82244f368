use Rattle.git_degrees.proofs.OneDegree.{not_both}
use Rattle.git_degrees.proofs.laws.none_apart_where_homogeneous.Goals as goal

pub returns : goal.returns
returns c = not_both
