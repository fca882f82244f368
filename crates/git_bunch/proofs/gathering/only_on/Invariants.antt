use Rattle.git_bunch.specs.Groups.{AreGroups, IsOnly}
use Rattle.git_bunch.specs.Stable.{Family}
use Rattle.git_bunch.proofs.Gathers.{Gathered}
use Rattle.git_bunch.proofs.gathering.only_on.Given as goal

abbrev pub invariant-loop-i : goal.invariant-loop-i
invariant-loop-i l = (F : Family) → AreGroups F l.groups → Gathered F (IsOnly l.on l.one l.two) l.i l.all.items
