use Rattle.git_machine.specs.Signatures.{Has}
use Rattle.git_bunch.specs.Groups.{AreGroups}
use Rattle.git_bunch.specs.Stable.{Family}
use Rattle.git_bunch.proofs.Gathers.{Leasts}
use Rattle.git_bunch.proofs.gathering.minimal_of.Given as goal

abbrev pub invariant-loop-i : goal.invariant-loop-i
invariant-loop-i l = (F : Family) → AreGroups F l.groups → Leasts F (Has l.set) l.i l.all.items
