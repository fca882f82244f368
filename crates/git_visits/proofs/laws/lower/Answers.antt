use Rattle.git_visits.proofs.Events.{lower_law}
use Rattle.git_visits.proofs.laws.lower.Goals as goal

pub returns : goal.returns
returns g c = lower_law g.G.Successors.next
