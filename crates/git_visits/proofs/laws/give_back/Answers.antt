use Rattle.git_visits.proofs.Events.{give_back_law}
use Rattle.git_visits.proofs.laws.give_back.Goals as goal

pub returns : goal.returns
returns g c = give_back_law g.G.Successors.next
