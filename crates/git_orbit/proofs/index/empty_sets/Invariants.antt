use Rattle.git_orbit.specs.Index.{AreEmpty}
use Rattle.git_orbit.proofs.index.empty_sets.Given as goal

abbrev pub invariant-loop-i : goal.invariant-loop-i
invariant-loop-i l = AreEmpty l.i l.width l.sets.items
