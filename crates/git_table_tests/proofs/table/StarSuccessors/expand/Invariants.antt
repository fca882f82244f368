use Rattle.std.proofs.Common.{◌≡◌}
use Rattle.git_table_tests.specs.Spokes.{spokes}
use Rattle.git_table_tests.proofs.table.StarSuccessors.expand.Given as goal

abbrev pub invariant-loop-i : goal.invariant-loop-i
invariant-loop-i l = l.next.items ≡ spokes l.i
