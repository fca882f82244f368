use Rattle.std.proofs.Common.{ℕ, ◌<◌, get_or}
use Rattle.std.specs.Prelude.{pos, ◌≤ℤ◌}
use Rattle.git_defs.specs.Vectors.{dot}
use Rattle.git_adjacency.specs.declared.ray.Ray.{Ray}
use Rattle.git_adjacency.proofs.stage.cuts_off.Given as goal

abbrev pub invariant-loop-r : goal.invariant-loop-r
invariant-loop-r l = (j : ℕ) (d : Ray) → j < l.r-index → pos 0 ≤ℤ dot l.b (get_or l.rays j d).vector
