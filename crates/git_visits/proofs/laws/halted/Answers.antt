use Rattle.git_visits.proofs.Events.{halted_law}
use Rattle.git_visits.proofs.laws.halted.Goals as goal

pub returns : goal.returns
returns g c = halted_law g.G.Successors.next
