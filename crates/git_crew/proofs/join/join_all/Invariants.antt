use Rattle.std.proofs.Common.{◌≡◌, ℕ, ◌+◌, length}
use Rattle.std.specs.List.{All}
use Rattle.git_crew.specs.Members.{IsMember}
use Rattle.git_crew.proofs.join.join_all.Given as goal

abbrev pub invariant-loop-member : goal.invariant-loop-member
invariant-loop-member g l = record {
  rest : All (IsMember g.G.Successors.next g.G.Successors.payload l.frontier 1) l.members.items;
  joined : (n : ℕ) × (n + length l.members.items ≡ length l.fn.members.items) × IsMember g.G.Successors.next g.G.Successors.payload l.frontier n l.all;
}

abbrev pub decreases-loop-member : goal.decreases-loop-member
decreases-loop-member g l = length l.members.items
