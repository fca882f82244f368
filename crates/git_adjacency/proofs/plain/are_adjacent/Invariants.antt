use Rattle.std.proofs.Common.{take}
use Rattle.git_geometry.specs.Zeros.{Adjacent}
use Rattle.git_adjacency.proofs.plain.are_adjacent.Given as goal

abbrev pub invariant-loop-t : goal.invariant-loop-t
invariant-loop-t l = Adjacent l.inequalities (take l.t-index l.list) l.r l.s
