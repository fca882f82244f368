use Rattle.git_adjacency.proofs.Bits.{none_has}
use Rattle.git_adjacency.proofs.marks.blank.Goals as goal

pub returns-clause-none : goal.returns-clause-none
returns-clause-none c = none_has c.loop-i.out.items c.loop-i.invariant.1
