use Rattle.git_visits.proofs.Events.{publish_law}
use Rattle.git_visits.proofs.laws.publish.Goals as goal

pub returns : goal.returns
returns g c = publish_law g.G.Successors.next
