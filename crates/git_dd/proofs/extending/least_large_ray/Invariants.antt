use Rattle.std.proofs.Common.{take}
use Rattle.git_stages.specs.Wide.{IsLeastOf}
use Rattle.git_adjacency.specs.Marks.{vectors}
use Rattle.git_dd.proofs.extending.least_large_ray.Given as goal

abbrev pub invariant-loop-r : goal.invariant-loop-r
invariant-loop-r l = IsLeastOf (take l.r-index (vectors l.rays)) l.least
