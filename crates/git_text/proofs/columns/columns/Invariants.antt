use Rattle.std.proofs.Common.{◌≡◌}
use Rattle.git_text.specs.Grammar.{columns_of}
use Rattle.git_text.specs.Views.{rows_of}
use Rattle.git_text.proofs.columns.columns.Given as goal

abbrev pub invariant-loop-j : goal.invariant-loop-j
invariant-loop-j l = l.columns.items ≡ columns_of l.j (rows_of l.rows)
