-- The full faces of a matrix.
use Rattle.std.specs.Prelude.{ℕ, ◌<◌, ◌↔◌, List, AllPairs, Contains}
use Rattle.git_defs.specs.Vectors.{Vector}
use Rattle.git_defs.specs.Faces.{IsConeFace}

-- a face of which as many columns as there are rows are independent: a cone face without a test
abbrev pub IsFullFace : ℕ → List Vector → ℕ → Type 0
IsFullFace k columns mask = IsConeFace k columns (λ m. Unit {0}) mask

-- all full faces, by descending mask
pub record AreFullFaces (k : ℕ) (columns : List Vector) (masks : List ℕ) : Type 0 where
  pub descending : AllPairs (λ (m n : ℕ). n < m) masks
  pub each : (m : ℕ) → Contains masks m ↔ IsFullFace k columns m
