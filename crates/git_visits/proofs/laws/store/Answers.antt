use Rattle.git_visits.proofs.Events.{store_law}
use Rattle.git_visits.proofs.laws.store.Goals as goal

pub returns : goal.returns
returns g c = store_law g.G.Successors.next
