use Rattle.git_visits.proofs.Events.{compare_law}
use Rattle.git_visits.proofs.laws.compare.Goals as goal

pub returns : goal.returns
returns g c = compare_law g.G.Successors.next
