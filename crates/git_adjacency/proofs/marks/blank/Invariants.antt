use Rattle.std.proofs.Common.{◌≡◌, ℕ, length, get_or}
use Rattle.git_adjacency.proofs.marks.blank.Given as goal

abbrev pub invariant-loop-i : goal.invariant-loop-i
invariant-loop-i l = (length l.out.items ≡ l.i) × ((k : ℕ) → get_or l.out.items k 0 ≡ 0)
