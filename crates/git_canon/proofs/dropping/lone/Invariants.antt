use Rattle.std.proofs.Common.{take}
use Rattle.git_adjacency.specs.Marks.{vectors}
use Rattle.git_canon.proofs.Cones.{AloneTo}
use Rattle.git_canon.proofs.dropping.lone.Given as goal

abbrev pub invariant-loop-r : goal.invariant-loop-r
invariant-loop-r l = AloneTo l.inequalities (vectors l.given) (take l.r-index (vectors l.given)) l.out.items
