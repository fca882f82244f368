use Rattle.git_visits.proofs.Events.{raise_law}
use Rattle.git_visits.proofs.laws.raise.Goals as goal

pub returns : goal.returns
returns g c = raise_law g.G.Successors.next
