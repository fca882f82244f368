use Rattle.git_machine.proofs.Once.{reach_exceeds}
use Rattle.git_machine.proofs.laws.reach_is_counted.Goals as goal

pub returns : goal.returns
returns g c = λ a first xs cap reach. (reach_exceeds (g.G.Successors.next a) first xs cap reach, λ longer. record { some = xs; many = longer; reached = reach.sound; once = reach.once })
