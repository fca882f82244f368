use Rattle.std.proofs.Common.{◌≡◌, ◌<◌, ℕ, length, get_or}
use Rattle.std.specs.Int.RustNames.{bit_and}
use Rattle.git_adjacency.proofs.marks.both_of.Given as goal

abbrev pub invariant-loop-i : goal.invariant-loop-i
invariant-loop-i l = record {
  long : length l.out.items ≡ l.i;
  each : (k : ℕ) → k < l.i → get_or l.out.items k 0 ≡ bit_and (get_or l.r k 0) (get_or l.s k 0);
}
