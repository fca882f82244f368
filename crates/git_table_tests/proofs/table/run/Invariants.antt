use Rattle.git_table_tests.specs.Spokes.{IsCaller}
use Rattle.git_table_tests.proofs.table.run.Given as goal

abbrev pub invariant-loop-by_first : goal.invariant-loop-by_first
invariant-loop-by_first l = record {
  first : IsCaller l.frontier l.first.seat l.first.busy;
  second : IsCaller l.frontier l.second.seat l.second.busy;
}
