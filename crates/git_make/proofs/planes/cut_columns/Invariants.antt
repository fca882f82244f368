use Rattle.std.proofs.Common.{◌≡◌, map, take}
use Rattle.git_make.proofs.planes.cut_columns.Given as goal

abbrev pub invariant-loop-row : goal.invariant-loop-row
invariant-loop-row l = l.columns.items ≡ map (take l.k) (take l.row-index l.table)
