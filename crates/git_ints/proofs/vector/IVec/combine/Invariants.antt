use Rattle.std.proofs.Common.{◌≡◌, ◌<◌, ℕ, length, get_or}
use Rattle.std.proofs.Math.IntN.{pos, ◌+ℤ◌, ◌*ℤ◌}
use Rattle.git_ints.proofs.vector.IVec.combine.Given as goal

abbrev pub invariant-loop-i : goal.invariant-loop-i
invariant-loop-i l = record {
  long : length l.all ≡ 6;
  each : (j : ℕ) → j < l.i → get_or l.all j (pos 0) ≡ l.fn.a *ℤ get_or l.x j (pos 0) +ℤ l.fn.b *ℤ get_or l.y j (pos 0);
}
