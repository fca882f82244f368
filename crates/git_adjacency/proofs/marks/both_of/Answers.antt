use Rattle.std.proofs.Common.{arith}
use Rattle.git_adjacency.proofs.Bits.{both_each}
use Rattle.git_adjacency.proofs.marks.both_of.Goals as goal

pub returns-clause-each : goal.returns-clause-each
returns-clause-each c = both_each c.loop-i.out.items c.args.r.now c.args.s.now (omega (arith, c.loop-i.invariant.long, c.loop-i-test.false)) (λ k h. c.loop-i.invariant.each k (omega (arith, h, c.loop-i-test.false)))
