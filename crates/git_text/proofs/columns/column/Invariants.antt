use Rattle.std.proofs.Common.{◌≡◌, take, length}
use Rattle.git_text.specs.Grammar.{column_of}
use Rattle.git_text.specs.Views.{rows_of}
use Rattle.git_text.proofs.columns.column.Given as goal

abbrev pub invariant-loop-i : goal.invariant-loop-i
invariant-loop-i l = record { size : length l.entries ≡ 6; written : take l.i l.entries ≡ take l.i (column_of (rows_of l.rows) l.j) }
