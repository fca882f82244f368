use Rattle.std.proofs.Common.{arith}
use Rattle.git_facecert.proofs.Pairs.{one_partner}
use Rattle.git_facecert.proofs.free.first_partner.Goals as goal

pub loop-j-preserved : goal.loop-j-preserved
loop-j-preserved c = one_partner c.args.members.now c.args.i c.loop-j.j c.loop-j.invariant (c.in_ok-pair_divides.ensures.0 c.if-not-branch.false)

pub returns-clause-none : goal.returns-clause-none
returns-clause-none c = λ l low high. c.loop-j.invariant l low (omega (arith, high, c.loop-j-test.false))
