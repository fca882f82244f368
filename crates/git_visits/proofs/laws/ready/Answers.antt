use Rattle.git_visits.proofs.Events.{ready_law}
use Rattle.git_visits.proofs.laws.ready.Goals as goal

pub returns : goal.returns
returns g c = ready_law g.G.Successors.next
