use Rattle.std.proofs.Common.{subst, arith}
use Rattle.git_ideals.specs.Division.{member}
use Rattle.git_facecert.specs.Certificates.{IsMember}
use Rattle.git_facecert.proofs.Firsts.{found_member, lacks_here, one_more, all_have}
use Rattle.git_facecert.proofs.free.first_other.Goals as goal

pub loop-i-init : goal.loop-i-init
loop-i-init c = λ k h. absurd (omega arith)

pub returns-then-not-is_member-clause-some : goal.returns-then-not-is_member-clause-some
returns-then-not-is_member-clause-some c =
    lacks_here (IsMember c.args.mask) c.args.members.now c.loop-i.i c.index-members-i.result c.index-members-i.is c.loop-i-test.true c.loop-i.invariant
    (λ is. cc (c.is_member.ensures.1 is, c.if-not-is_member.true))

pub loop-i-preserved : goal.loop-i-preserved
loop-i-preserved c =
    one_more (λ k. IsMember c.args.mask (member c.args.members.now k)) c.loop-i.i c.loop-i.invariant
    (subst (IsMember c.args.mask) (found_member c.args.members.now c.loop-i.i c.index-members-i.result c.index-members-i.is c.loop-i-test.true)
    (c.is_member.ensures.0 c.if-not-is_member.false))

pub returns-clause-none : goal.returns-clause-none
returns-clause-none c = all_have (IsMember c.args.mask) c.args.members.now (λ k h. c.loop-i.invariant k (omega (arith, h, c.loop-i-test.false)))
