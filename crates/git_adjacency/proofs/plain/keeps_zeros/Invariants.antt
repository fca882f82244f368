use Rattle.std.proofs.Common.{take}
use Rattle.git_geometry.specs.Zeros.{Flat, ZeroOnBoth}
use Rattle.git_adjacency.proofs.plain.keeps_zeros.Given as goal

abbrev pub invariant-loop-a : goal.invariant-loop-a
invariant-loop-a l = Flat (ZeroOnBoth l.r l.s) (take l.a-index l.inequalities) l.t
