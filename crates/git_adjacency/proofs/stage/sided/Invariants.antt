use Rattle.std.proofs.Common.{◌++◌, ◌∷◌, [], vec_len}
use Rattle.std.specs.Prelude.{All}
use Rattle.git_adjacency.specs.Making.{IsSidedTo}
use Rattle.git_adjacency.specs.Marks.{vectors, IsRay}
use Rattle.git_adjacency.specs.Sides.{AreMarkedSides}
use Rattle.git_adjacency.proofs.stage.sided.Given as goal

abbrev pub invariant-moving : goal.invariant-moving
invariant-moving l = record {
  sided : IsSidedTo l.b (vectors l.fn.rays.items) (vectors l.left.items) (vectors l.sides.above.items) (vectors l.sides.level.items) (vectors l.sides.below.items);
  rays : All (IsRay l.k l.inequalities l.width) l.left.items;
  marked : AreMarkedSides (l.inequalities ++ l.b ∷ []) l.width l.sides;
}

abbrev pub decreases-moving : goal.decreases-moving
decreases-moving l = vec_len l.left
