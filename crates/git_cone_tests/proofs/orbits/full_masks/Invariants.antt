use Rattle.git_orbit.proofs.FullMasks.{FacesFrom}
use Rattle.git_cone_tests.proofs.orbits.full_masks.Given as goal

abbrev pub invariant-loop-i : goal.invariant-loop-i
invariant-loop-i l = FacesFrom l.g.k l.g.columns l.faces.count l.i l.out.items
