use Rattle.std.proofs.Common.{sym, arith, replicate}
use Rattle.std.proofs.Math.ListN.{length-set}
use Rattle.git_mono.proofs.Fields.{sum-set_zero, variable_power_is}
use Rattle.git_mono.proofs.mono.Mono.power.Goals as goal

pub invariant_of-result : goal.invariant_of-result
invariant_of-result c = (length-set (replicate 17 0) c.args.i c.args.e, sym (sum-set_zero c.args.i c.args.e c.requires), omega arith)

pub returns-clause-some : goal.returns-clause-some
returns-clause-some c = variable_power_is c.args.i c.args.e c.requires
