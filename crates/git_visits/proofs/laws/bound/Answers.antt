use Rattle.git_visits.proofs.Events.{bound_law}
use Rattle.git_visits.proofs.laws.bound.Goals as goal

pub returns : goal.returns
returns g c = bound_law g.G.Successors.next
