use Rattle.git_visits.proofs.Events.{finish_law}
use Rattle.git_visits.proofs.laws.finish.Goals as goal

pub returns : goal.returns
returns g c = finish_law g.G.Successors.next
