use Rattle.std.proofs.Common.{ℕ, ◌≡◌, ◌<◌, get_or, length}
use Rattle.git_defs.specs.Vectors.{Vector}
use Rattle.git_ints.specs.Padded.{AreWithin}
use Rattle.git_cone_tests.proofs.orbits.are_columns.Given as goal

abbrev pub invariant-loop-v : goal.invariant-loop-v
invariant-loop-v l = (j : ℕ) (d : Vector) → j < l.v-index → (length (get_or l.columns j d) ≡ l.k) × AreWithin 1000 (get_or l.columns j d)
