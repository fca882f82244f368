use Rattle.git_crew.specs.Members.{IsMember}
use Rattle.git_crew.proofs.member.work.Given as goal

abbrev pub invariant-loop-round : goal.invariant-loop-round
invariant-loop-round g l = IsMember g.G.Successors.next g.G.Successors.payload l.frontier 1 l.member
