use Rattle.git_bunch.proofs.Grouping.{GroupsBelow}
use Rattle.git_bunch.specs.Stable.{family}
use Rattle.git_bunch.proofs.groups.grouped.Given as goal

abbrev pub invariant-loop-i : goal.invariant-loop-i
invariant-loop-i l = GroupsBelow (family l.cones l.g.columns l.free) l.i l.out.items
