-- Marks of vectors: the inequalities at which a vector is 0, as the bits of words.
use Rattle.std.specs.Prelude.{◌≡◌, ◌↔◌, ℕ, ◌/◌, ◌%◌, ◌+◌, ◌<◌, List, [], ◌∷◌, length, get_or, pos, map}
use Rattle.std.specs.Int.{bit_at}
use Rattle.std.specs.Int.RustNames.{bit_and, count_ones}
use Rattle.git_defs.specs.Vectors.{Vector, dot}
use Rattle.git_stages.specs.Short.{IsShort}
use Rattle.git_adjacency.specs.declared.ray.Ray.{Ray}

-- the number is one of those that the words mark
abbrev pub HasMark : List ℕ → ℕ → Type 0
HasMark words j = bit_at (get_or words (j / 64) 0) (j % 64) ≡ 1

-- how many numbers the words of both mark
abbrev pub shared : List ℕ → List ℕ → ℕ
shared [] s = 0
shared (a ∷ r) [] = 0
shared (a ∷ r) (b ∷ s) = count_ones (bit_and a b) + shared r s

-- the words mark the places of the inequalities at which x is 0
pub record IsMarked (inequalities : List Vector) (width : ℕ) (x : Vector) (words : List ℕ) : Type 0 where
  pub long : length words ≡ width
  pub each : (j : ℕ) → HasMark words j ↔ ((j < length inequalities) × (dot (get_or inequalities j []) x ≡ pos 0))

-- a short vector with its marks
pub record IsRay (k : ℕ) (inequalities : List Vector) (width : ℕ) (ray : Ray) : Type 0 where
  pub short : IsShort k ray.vector
  pub marked : IsMarked inequalities width ray.vector ray.zeros.items

abbrev pub vectors : List Ray → List Vector
vectors rays = map (λ (r : Ray). r.vector) rays
