use Rattle.std.proofs.Common.{◌≡◌, ℕ, length, get_or}
use Rattle.git_orbit.proofs.sets.NumberSet.empty.Given as goal

abbrev pub invariant-loop-i : goal.invariant-loop-i
invariant-loop-i l = (length l.words.items ≡ l.i) × ((p : ℕ) → get_or l.words.items p 0 ≡ 0)
