use Rattle.git_visits.proofs.Events.{stop_law}
use Rattle.git_visits.proofs.laws.stop.Goals as goal

pub returns : goal.returns
returns g c = stop_law g.G.Successors.next
