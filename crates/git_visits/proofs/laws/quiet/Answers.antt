use Rattle.git_visits.proofs.Events.{quiet_law}
use Rattle.git_visits.proofs.laws.quiet.Goals as goal

pub returns : goal.returns
returns g c = quiet_law g.G.Successors.next
