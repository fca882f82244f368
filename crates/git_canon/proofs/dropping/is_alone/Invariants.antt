use Rattle.std.proofs.Common.{◌≡◌, take}
use Rattle.git_defs.specs.Vectors.{Vector}
use Rattle.git_geometry.specs.Zeros.{Dominates}
use Rattle.git_adjacency.specs.Marks.{vectors}
use Rattle.git_canon.proofs.dropping.is_alone.Given as goal
use Rattle.std.specs.Prelude.{Contains}

abbrev pub invariant-loop-s : goal.invariant-loop-s
invariant-loop-s l = (s : Vector) → Contains (take l.s-index (vectors l.given)) s → Dominates l.inequalities s l.r.vector → s ≡ l.r.vector
