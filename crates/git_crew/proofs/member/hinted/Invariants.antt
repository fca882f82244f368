use Rattle.std.proofs.Common.{◌≡◌}
use Rattle.git_crew.specs.Members.{IsMember}
use Rattle.git_crew.specs.declared.member.End.TheVariants.{Working}
use Rattle.git_crew.proofs.member.hinted.Given as goal

abbrev pub invariant-loop-look : goal.invariant-loop-look
invariant-loop-look g l = record {
  member : IsMember g.G.Successors.next g.G.Successors.payload l.frontier 1 l.member;
  working : l.member.end ≡ Working;
}
