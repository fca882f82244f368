use Rattle.std.proofs.Common.{◌≡◌, ◌<◌, ℕ, slice_index_or}
use Rattle.git_bits.specs.Bits.{IsWithin}
use Rattle.git_grading.proofs.grading.has_basis.Given as goal

abbrev pub invariant-loop-basis : goal.invariant-loop-basis
invariant-loop-basis l = (i d : ℕ) → i < l.basis-index → IsWithin (slice_index_or l.bases i d) l.mask → ⊥
