use Rattle.git_visits.proofs.Events.{draw_law}
use Rattle.git_visits.proofs.laws.draw.Goals as goal

pub returns : goal.returns
returns g c = draw_law g.G.Successors.next
