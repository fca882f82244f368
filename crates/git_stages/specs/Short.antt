-- Vectors of one length with small entries.
use Rattle.std.specs.Prelude.{◌≡◌, ℕ, length}
use Rattle.git_defs.specs.Vectors.{Vector}
use Rattle.git_ints.specs.Padded.{AreWithin}
use Rattle.git_limits.specs.declared.TheConstants.{ENTRY}

-- k entries, each at most 2^40 in absolute value
pub record IsShort (k : ℕ) (v : Vector) : Type 0 where
  pub entries : length v ≡ k
  pub within : AreWithin ENTRY v
