use Rattle.git_degrees.proofs.OneDegree.{pair_same}
use Rattle.git_degrees.proofs.laws.one_pair_apart.Goals as goal

pub returns : goal.returns
returns c = pair_same
