use Rattle.std.proofs.Common.{◌≡◌, ◌*◌, ◌<◌, ◌++◌, map}
use Rattle.std.specs.List.{range_with_len}
use Rattle.git_make.specs.Samples.{state, drawn_column}
use Rattle.git_make.proofs.draws.push_drawn.Given as goal

abbrev pub invariant-loop : goal.invariant-loop
invariant-loop l = record {
  at : l.state ≡ state l.seed (l.counter * 2);
  small : l.state < 2147483648;
  columns : l.columns.items ≡ l.fn.columns.items ++ map (drawn_column l.seed) (range_with_len 0 l.counter);
}
