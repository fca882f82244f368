use Rattle.std.proofs.Common.{◌<◌, ℕ}
use Rattle.git_walk.specs.Walks.{Marked}
use Rattle.git_check_chambers.proofs.listing.has_mark.Given as goal

abbrev pub invariant-loop-i : goal.invariant-loop-i
invariant-loop-i l = (m : ℕ) → m < l.i → Marked l.marks m → ⊥
