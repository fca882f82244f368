use Rattle.git_orbit.specs.Index.{AreFacetsBelow}
use Rattle.git_orbit.proofs.index.gathered.Given as goal

abbrev pub invariant-loop-i : goal.invariant-loop-i
invariant-loop-i l = AreFacetsBelow (record { k = l.k; list = l.list }) l.i l.all.items
