use Rattle.std.proofs.Common.{take}
use Rattle.git_geometry.specs.Zeros.{Adjacent}
use Rattle.git_adjacency.specs.Marks.{vectors}
use Rattle.git_adjacency.proofs.stage.is_adjacent.Given as goal

abbrev pub invariant-loop-t : goal.invariant-loop-t
invariant-loop-t l = Adjacent l.upto (take l.t-index (vectors l.rays)) l.r.vector l.s.vector
