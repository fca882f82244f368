use Rattle.std.proofs.Common.{ℕ, take}
use Rattle.std.specs.Prelude.{Contains}
use Rattle.git_bits.specs.Bits.{IsWithin}
use Rattle.git_bunch.proofs.masks.contains_one.Given as goal

abbrev pub invariant-loop-n : goal.invariant-loop-n
invariant-loop-n l = (m : ℕ) → Contains (take l.n-index l.list) m → IsWithin m l.mask → ⊥
