use Rattle.git_visits.proofs.Events.{take_law}
use Rattle.git_visits.proofs.laws.take.Goals as goal

pub returns : goal.returns
returns g c = take_law g.G.Successors.next
