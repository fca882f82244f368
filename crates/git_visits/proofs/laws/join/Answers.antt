use Rattle.git_visits.proofs.Events.{join_law}
use Rattle.git_visits.proofs.laws.join.Goals as goal

pub returns : goal.returns
returns g c = join_law g.G.Successors.next
