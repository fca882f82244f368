use Rattle.std.proofs.Common.{◌≡◌, ◌+◌, ◌++◌, take, length}
use Rattle.git_defs.specs.Vectors.{units}
use Rattle.git_chamber.proofs.germs.with_units.Given as goal

abbrev pub invariant-loop-i : goal.invariant-loop-i
invariant-loop-i l = record {
  long : length l.all ≡ 8;
  value : take (length l.front + l.i) l.all ≡ l.front ++ take l.i (units l.k);
}
