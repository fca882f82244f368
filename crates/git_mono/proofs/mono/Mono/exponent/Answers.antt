use Rattle.std.proofs.Common.{sym}
use Rattle.git_mono.proofs.Fields.{exponent_is}
use Rattle.git_mono.proofs.mono.Mono.exponent.Goals as goal

pub returns : goal.returns
returns c = sym (exponent_is _ _ c.self.view_is c.self.invariant.0 c.args.i)
