use Rattle.std.proofs.Common.{ℕ, ◌<◌, ◌≡◌, get_or, length}
use Rattle.git_defs.specs.Vectors.{Vector}
use Rattle.git_ints.specs.Padded.{AreWithin}
use Rattle.git_cone_tests.proofs.chambers.is_matrix.Given as goal

abbrev pub invariant-loop-column : goal.invariant-loop-column
invariant-loop-column l = (i : ℕ) (d : Vector) → i < l.column-index → (length (get_or l.columns i d) ≡ l.k) × AreWithin 1000 (get_or l.columns i d)
