-- What holds of stable faces, as the laws of this crate say it.
use Rattle.std.specs.Prelude.{◌≡◌, ◌↔◌, ◌⊎◌, ℕ, [], ◌∷◌, List, length, Contains}
use Rattle.git_bits.specs.Bits.{IsWithin}
use Rattle.git_defs.specs.Vectors.{Vector, AllOfLength, vector_sum}
use Rattle.git_cone_faces.specs.Faces.{on_wall}
use Rattle.git_grading.specs.Gradings.{IsGrading}
use Rattle.git_machine.specs.Signatures.{Signature}
use Rattle.git_listing.specs.Listings.{Chamber}
use Rattle.git_orbit.specs.Signatures.{IsHolding, IsSignature}
use Rattle.git_chamber.specs.Chambers.{crossing}
use Rattle.git_bunch.specs.Stable.{Family, IsFamily, IsNumberOf, Minimal, Stable}
use Rattle.git_bunch.specs.Bunches.{AreBunches, BunchValue, IsCrossedListing}

-- a face has one number at most
abbrev pub FaceHasOneNumber : Type 0
FaceHasOneNumber = (F : Family) (mask i j : ℕ) → IsFamily F → IsNumberOf F.fan F.columns mask i → IsNumberOf F.fan F.columns mask j → i ≡ j

-- at a wall of the chamber with these rays, what is stable on either side is stable for the set of its middle
abbrev pub SidesLieInTheWall : Type 0
SidesLieInTheWall = (F : Family) (rays : List Vector) (n : Vector) (s other middle : Signature) (mask : ℕ) → AllOfLength F.fan.k rays → length n ≡ F.fan.k
    → IsHolding F.fan rays s → IsSignature F.fan (crossing F.fan.k rays n) other → IsSignature F.fan (vector_sum F.fan.k (on_wall n rays) ∷ []) middle
    → Stable F s mask ⊎ Stable F other mask → Stable F middle mask

-- for the cones that hold some vectors, a full a-face is stable exactly where a minimal one lies within it
abbrev pub StableExactlyOverAMinimal : Type 0
StableExactlyOverAMinimal = (F : Family) (rays : List Vector) (s : Signature) (mask : ℕ) → IsGrading F.fan.k F.columns → IsFamily F → IsHolding F.fan rays s → Contains F.free mask
    → Stable F s mask ↔ ((m : ℕ) × Minimal F s m × IsWithin m mask)

-- the chambers of a listing have one list of bunches at most
abbrev pub BunchesAreOne : Type 0
BunchesAreOne = (F : Family) (cs : List Chamber) (a b : List BunchValue) → AreBunches F cs a → AreBunches F cs b → a ≡ b

-- and one at least
abbrev pub BunchesExist : Type 0
BunchesExist = (F : Family) (cs : List Chamber) → IsGrading F.fan.k F.columns → IsFamily F → IsCrossedListing F.fan cs → (bunches : List BunchValue) × AreBunches F cs bunches
