use Rattle.std.proofs.Common.{take}
use Rattle.git_lemmas.specs.Members.{Member}
use Rattle.git_assemble.proofs.matching.has.Given as goal

abbrev pub invariant-loop-u : goal.invariant-loop-u
invariant-loop-u l = Member l.v (take l.u-index l.list) → ⊥
