use Rattle.git_plain.proofs.Listed.{listed_or_exceeds}
use Rattle.git_plain.proofs.laws.each_reach_is_listed_or_exceeds.Goals as goal

pub returns : goal.returns
returns g c = λ a first cap has one. listed_or_exceeds (g.G.Successors.next a) first cap has one
