use Rattle.std.proofs.Common.{take, length, ◌≤◌}
use Rattle.git_stages.specs.Prepared.{ArePrimitiveParts}
use Rattle.git_stages.proofs.preparing.gathered.Given as goal

abbrev pub invariant-loop-a : goal.invariant-loop-a
invariant-loop-a l = record {
  done : ArePrimitiveParts (take l.a-index l.given) l.out.items;
  size : length l.out.items ≤ l.a-index;
}
