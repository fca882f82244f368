use Rattle.git_chamber.proofs.Firsts.{first_legal}
use Rattle.git_chamber.proofs.laws.first_is_legal.Goals as goal

pub returns : goal.returns
returns c = λ g sig is s. first_legal g is sig s
