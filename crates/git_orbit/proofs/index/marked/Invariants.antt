use Rattle.git_orbit.proofs.Indexes.{AreSetsBelow}
use Rattle.git_orbit.proofs.index.marked.Given as goal

abbrev pub invariant-loop-i : goal.invariant-loop-i
invariant-loop-i l = AreSetsBelow (record { k = l.k; list = l.list }) l.normals l.i l.sets.items
