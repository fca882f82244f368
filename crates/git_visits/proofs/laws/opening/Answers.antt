use Rattle.git_visits.proofs.Passages.{opening_law}
use Rattle.git_visits.proofs.laws.opening.Goals as goal

pub returns : goal.returns
returns g c = opening_law g.G.Successors.next
