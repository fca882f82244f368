use Rattle.git_visits.proofs.Events.{split_law}
use Rattle.git_visits.proofs.laws.split.Goals as goal

pub returns : goal.returns
returns g c = split_law g.G.Successors.next
