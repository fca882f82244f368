use Rattle.git_visits.proofs.Events.{stopped_law}
use Rattle.git_visits.proofs.laws.stopped.Goals as goal

pub returns : goal.returns
returns g c = stopped_law g.G.Successors.next
