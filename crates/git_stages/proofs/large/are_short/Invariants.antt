use Rattle.std.proofs.Common.{take}
use Rattle.std.specs.Prelude.{All}
use Rattle.git_stages.specs.Short.{IsShort}
use Rattle.git_stages.proofs.large.are_short.Given as goal

abbrev pub invariant-loop-v : goal.invariant-loop-v
invariant-loop-v l = All (IsShort l.k) (take l.v-index l.vs)
