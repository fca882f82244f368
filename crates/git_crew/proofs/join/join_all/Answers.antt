use Rattle.std.proofs.Common.{◌+◌, arith}
use Rattle.git_crew.specs.Members.{IsMember}
use Rattle.git_crew.proofs.Counting.{popped}
use Rattle.git_crew.proofs.join.join_all.Goals as goal

pub loop-member-init : goal.loop-member-init
loop-member-init g c =
    let p = popped (IsMember g.G.Successors.next g.G.Successors.payload c.args.frontier.now 1) c.args.members.items c.pop.new.self.items c.pop.result c.in-Some.last c.pop.ensures.items c.in-Some.is c.requires.members in
    let l = p.2 in record { rest = p.0; joined = (1, omega arith, p.1) }

pub join_two-all-requires-clause-other : goal.join_two-all-requires-clause-other
join_two-all-requires-clause-other g c =
    (popped (IsMember g.G.Successors.next g.G.Successors.payload c.args.frontier.now 1) c.loop-member.members.items c.pop-in-loop-member.new.self.items c.pop-in-loop-member.result c.in-Some-pop.member c.pop-in-loop-member.ensures.items c.in-Some-pop.is c.loop-member.invariant.rest).1

pub loop-member-preserved : goal.loop-member-preserved
loop-member-preserved g c =
    let p = popped (IsMember g.G.Successors.next g.G.Successors.payload c.args.frontier.now 1) c.loop-member.members.items c.pop-in-loop-member.new.self.items c.pop-in-loop-member.result c.in-Some-pop.member c.pop-in-loop-member.ensures.items c.in-Some-pop.is c.loop-member.invariant.rest in
    let j = c.loop-member.invariant.joined in
    let l = p.2 in
    let n = j.1 in record { rest = p.0; joined = (j.0 + 1, omega arith, c.join_two-all.ensures j.0 j.2) }
