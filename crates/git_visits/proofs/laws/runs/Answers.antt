use Rattle.git_visits.proofs.Passages.{runs_law}
use Rattle.git_visits.proofs.laws.runs.Goals as goal

pub returns : goal.returns
returns g c = runs_law g.G.Successors.next
