use Rattle.std.proofs.Common.{◌⊎◌, vec_len}
use Rattle.std.specs.Prelude.{◌↔◌, Contains}
use Rattle.git_adjacency.specs.declared.ray.Ray.{Ray}
use Rattle.git_adjacency.proofs.stage.move_all.Given as goal

abbrev pub invariant-moving : goal.invariant-moving
invariant-moving l = (x : Ray) → (Contains l.out.items x ⊎ Contains l.left.items x) ↔ (Contains l.fn.out.items x ⊎ Contains l.fn.from.items x)

abbrev pub decreases-moving : goal.decreases-moving
decreases-moving l = vec_len l.left
