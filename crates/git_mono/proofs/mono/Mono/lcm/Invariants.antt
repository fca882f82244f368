use Rattle.std.proofs.Common.{◌≡◌, max, ◌<◌, ℕ, length, get_or}
use Rattle.git_mono.proofs.mono.Mono.lcm.Given as goal

abbrev pub invariant-loop-i : goal.invariant-loop-i
invariant-loop-i l = record {
  long : length l.exponents ≡ 17;
  each : (k : ℕ) → k < l.i → get_or l.exponents k 0 ≡ max (get_or l.self-inside.exponents k 0) (get_or l.o-inside.exponents k 0);
}
