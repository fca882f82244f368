-- Full a-faces by the numbers of their orbit cones: stable ones, minimal ones, and what a crossing changes.
use Rattle.std.specs.Prelude.{◌≡◌, ◌↔◌, ℕ, ◌<◌, List, length, AllPairs, Contains, Option, Some, None}
use Rattle.git_bits.specs.Bits.{IsWithin}
use Rattle.git_defs.specs.Vectors.{Vector}
use Rattle.git_defs.specs.Cones.{SameSet}
use Rattle.git_defs.specs.Faces.{face_cone}
use Rattle.git_machine.specs.Signatures.{Signature, Has}
use Rattle.git_orbit.specs.Orbits.{AreFaces, AreOrbitCones, Fan}
use Rattle.git_orbit.specs.Signatures.{cone_in}

-- the cone with this number is that of the face
pub record IsNumberOf (fan : Fan) (columns : List Vector) (mask number : ℕ) : Type 0 where
  pub in_range : number < length fan.list
  pub cone : SameSet (cone_in fan number) (face_cone fan.k columns mask)

-- the number of the face's cone, or that the cone is none of the list
abbrev pub IsNumberIfAny : Fan → List Vector → ℕ → Option ℕ → Type 0
IsNumberIfAny fan columns mask (Some number) = IsNumberOf fan columns mask number
IsNumberIfAny fan columns mask None = (number : ℕ) → IsNumberOf fan columns mask number → ⊥

-- the columns of a grading, its full a-faces, and their cones
pub record Family : Type 0 where
  pub fan : Fan
  pub columns : List Vector
  pub free : List ℕ

abbrev pub family : Fan → List Vector → List ℕ → Family
family fan columns free = record { fan = fan; columns = columns; free = free }

-- the a-faces are full, by descending mask, and the cones are theirs
pub record IsFamily (F : Family) : Type 0 where
  pub faces : AreFaces F.fan.k F.columns F.free
  pub cones : AreOrbitCones F.fan.k F.columns (Contains F.free) F.fan.list

-- a full a-face whose cone's number is in the set
pub record Stable (F : Family) (s : Signature) (mask : ℕ) : Type 0 where
  pub free : Contains F.free mask
  pub number : ℕ
  pub is : IsNumberOf F.fan F.columns mask number
  pub has : Has s number

-- a stable one with no other stable one within it
pub record Minimal (F : Family) (s : Signature) (mask : ℕ) : Type 0 where
  pub stable : Stable F s mask
  pub alone : (m : ℕ) → Stable F s m → IsWithin m mask → m ≡ mask

-- stable for the first set and not for the second
pub record Lost (F : Family) (s t : Signature) (mask : ℕ) : Type 0 where
  pub before : Stable F s mask
  pub after : Stable F t mask → ⊥

-- stable for the second set and not for the first
abbrev pub Gained : Family → Signature → Signature → ℕ → Type 0
Gained F s t = Lost F t s

-- stable for the set of the wall, and for neither of those beside it
pub record Wall (F : Family) (s t middle : Signature) (mask : ℕ) : Type 0 where
  pub on : Stable F middle mask
  pub before : Stable F s mask → ⊥
  pub after : Stable F t mask → ⊥

-- the numbers of which P holds, descending
pub record AreDescending (P : ℕ → Type 0) (list : List ℕ) : Type 0 where
  pub descending : AllPairs (λ (m n : ℕ). n < m) list
  pub each : (m : ℕ) → Contains list m ↔ P m
