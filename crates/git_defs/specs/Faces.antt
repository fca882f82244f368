-- Faces of the orthant by masks, and the distinct cones of the full ones that a test accepts.
use Rattle.std.specs.Prelude.{◌↔◌, ℕ, ◌<◌, ◌≤◌, ◌^◌, ◌/◌, if◌then◌else◌, List, [], ◌∷◌, length, slice_index, Contains, AllPairs}
use Rattle.git_bits.specs.Bits.{has_bit}
use Rattle.git_defs.specs.Vectors.{Vector, HasRank}
use Rattle.git_defs.specs.Cones.{InCone, SameSet}

-- the columns whose bit is set in the mask, the first column having the lowest bit
abbrev pub face : List Vector → ℕ → List Vector
face [] mask = []
face (q ∷ qs) mask = if has_bit mask 0 then q ∷ face qs (mask / 2) else face qs (mask / 2)

-- the orbit cone of the face
abbrev pub face_cone : ℕ → List Vector → ℕ → Vector → Type 0
face_cone k columns mask = InCone k (face columns mask)

-- k columns of the face are independent
abbrev pub IsFullDimensional : ℕ → List Vector → ℕ → Type 0
IsFullDimensional k columns mask = HasRank k (face columns mask)

-- a full face that the test accepts; the test is that of a-faces where an ideal is given
pub record IsConeFace (k : ℕ) (columns : List Vector) (accepted : ℕ → Type 0) (mask : ℕ) : Type 0 where
  pub in_range : mask < 2 ^ length columns
  pub full : IsFullDimensional k columns mask
  pub is_accepted : accepted mask

-- the two faces have one cone
abbrev pub SameCone : ℕ → List Vector → ℕ → ℕ → Type 0
SameCone k columns m n = SameSet (face_cone k columns m) (face_cone k columns n)

-- the greatest of the faces with its cone
pub record IsGreatestMask (k : ℕ) (columns : List Vector) (accepted : ℕ → Type 0) (mask : ℕ) : Type 0 where
  pub is_face : IsConeFace k columns accepted mask
  pub greatest : (m : ℕ) → IsConeFace k columns accepted m → SameCone k columns m mask → m ≤ mask

-- the least of the faces with its cone
pub record IsLeastMask (k : ℕ) (columns : List Vector) (accepted : ℕ → Type 0) (mask : ℕ) : Type 0 where
  pub is_face : IsConeFace k columns accepted mask
  pub least : (m : ℕ) → IsConeFace k columns accepted m → SameCone k columns m mask → mask ≤ m

-- the distinct cones, each by its greatest mask, descending: the place in the list is the cone's number
pub record AreCones (k : ℕ) (columns : List Vector) (accepted : ℕ → Type 0) (masks : List ℕ) : Type 0 where
  pub descending : AllPairs (λ m n. n < m) masks
  pub each : (m : ℕ) → Contains masks m ↔ IsGreatestMask k columns accepted m

-- the cone with this number
abbrev pub cone_at : ℕ → List Vector → List ℕ → ℕ → Vector → Type 0
cone_at k columns masks i = face_cone k columns (slice_index masks i)
