-- All faces of the cones of a listing.
use Rattle.std.specs.Prelude.{◌≡◌, ◌≢◌, ◌↔◌, ◌⊎◌, ℕ, ◌+◌, ◌<◌, List, [], ◌∷◌, length, map, AllPairs, Contains}
use Rattle.std.specs.Ordering.{int_cmp}
use Rattle.std.specs.declared.cmp.Ordering.TheVariants.{Less}
use Rattle.std.specs.Cmp.Lexicographic.{slice_cmp}
use Rattle.git_defs.specs.Vectors.{Vector}
use Rattle.git_stages.specs.Ranks.{IsRank}
use Rattle.git_cone_faces.specs.Families.{Cone, AreRaysOfSomeFace}
use Rattle.git_allcones.specs.declared.faces.FaceOf.{FaceOf}
use Rattle.git_allcones.specs.declared.sets.AllFault.{AllFault}
use Rattle.git_allcones.specs.declared.sets.AllFault.TheVariants.{TooMany, NoMemory}
use Rattle.git_allcones.specs.declared.sets.TheConstants.{FACES}

-- a face by its dimension and its extreme vectors
pub record Face : Type 0 where
  pub dimension : ℕ
  pub rays : List Vector

abbrev pub face_of : FaceOf → Face
face_of f = record { dimension = f.dimension; rays = f.rays.items }

-- a face of one of the cones; its dimension is the greatest number of independent extreme vectors
pub record IsFaceOfSome (k : ℕ) (cones : List Cone) (f : Face) : Type 0 where
  pub rays : AreRaysOfSomeFace k cones f.rays
  pub dimension : IsRank k f.rays f.dimension

-- one list of vectors before another, as in a dictionary
abbrev pub StandsBefore : List Vector → List Vector → Type 0
StandsBefore us vs = slice_cmp (slice_cmp int_cmp) us vs ≡ Less

-- by dimension, and then by the lists of rays
abbrev pub ComesBefore : Face → Face → Type 0
ComesBefore f g = (f.dimension < g.dimension) ⊎ ((f.dimension ≡ g.dimension) × StandsBefore f.rays g.rays)

-- all faces of the cones, each once, in order
pub record AreAllFaces (k : ℕ) (cones : List Cone) (faces : List Face) : Type 0 where
  pub ordered : AllPairs ComesBefore faces
  pub each : (f : Face) → Contains faces f ↔ IsFaceOfSome k cones f

-- how many lists there are, and vectors in them, together
abbrev pub lists_size : List (List Vector) → ℕ
lists_size [] = 0
lists_size (vs ∷ lists) = 1 + length vs + lists_size lists

abbrev pub rays_of_face : Face → List Vector
rays_of_face f = f.rays

-- how many faces there are, and rays in them, together
abbrev pub faces_size : List Face → ℕ
faces_size faces = lists_size (map rays_of_face faces)

-- distinct lists with this property that are more than the limit
pub record HaveMany (P : List Vector → Type 0) : Type 0 where
  pub lists : List (List Vector)
  pub distinct : AllPairs (λ us vs. us ≢ vs) lists
  pub each : (vs : List Vector) → Contains lists vs → P vs
  pub many : FACES < lists_size lists

-- too many lists have this property
abbrev pub IsAllFault : (List Vector → Type 0) → AllFault → Type 0
IsAllFault P TooMany = HaveMany P
IsAllFault P NoMemory = Unit {0}
