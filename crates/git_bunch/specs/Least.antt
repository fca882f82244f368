-- Masks within which no other of a set lies.
use Rattle.std.specs.Prelude.{◌≡◌, ◌↔◌, ℕ, List, Contains}
use Rattle.git_bits.specs.Bits.{IsWithin}
use Rattle.git_bunch.specs.Stable.{AreDescending}

-- P holds of the mask, and of no other that lies within it
pub record IsLeast (P : ℕ → Type 0) (mask : ℕ) : Type 0 where
  pub holds : P mask
  pub alone : (m : ℕ) → P m → IsWithin m mask → m ≡ mask

-- within each mask of the one list lies one of the other
abbrev pub Covers : List ℕ → List ℕ → Type 0
Covers all least = (m : ℕ) → Contains all m → (n : ℕ) × Contains least n × IsWithin n m

-- the least masks of a list, in any order
pub record AreLeast (all least : List ℕ) : Type 0 where
  pub each : (m : ℕ) → Contains least m ↔ IsLeast (Contains all) m
  pub covers : Covers all least

-- the same from the greatest down
pub record AreLeastOf (all least : List ℕ) : Type 0 where
  pub are : AreDescending (IsLeast (Contains all)) least
  pub covers : Covers all least
