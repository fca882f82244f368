use Rattle.git_visits.proofs.Events.{probe_law}
use Rattle.git_visits.proofs.laws.probe.Goals as goal

pub returns : goal.returns
returns g c = probe_law g.G.Successors.next
