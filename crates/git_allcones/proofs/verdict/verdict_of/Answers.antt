use Rattle.std.proofs.Common.{map}
use Rattle.git_allcones.specs.Cones.{cone_of}
use Rattle.git_allcones.proofs.Pairs.{fault_of_row, verdict_yes}
use Rattle.git_allcones.proofs.verdict.verdict_of.Goals as goal

pub returns-in-Err-clause-fault : goal.returns-in-Err-clause-fault
returns-in-Err-clause-fault c = fault_of_row c.args.k (map cone_of c.args.cones.now) c.loop-i.i c.in-Err.fault c.loop-i.invariant c.in-Err.ensures.fault

pub returns-clause-verdict : goal.returns-clause-verdict
returns-clause-verdict c = verdict_yes c.args.k c.args.cones.now c.loop-i.i c.loop-i-test.false c.loop-i.invariant
