use Rattle.git_chamber.proofs.Facets.{AreWallsBelow}
use Rattle.git_chamber.proofs.wall_lists.walls.Given as goal

abbrev pub invariant-loop-p : goal.invariant-loop-p
invariant-loop-p l = AreWallsBelow l.cones l.sig l.normals l.p l.walls.items
