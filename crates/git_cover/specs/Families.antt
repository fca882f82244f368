-- Families of cones within the cone that walls cut out: which facets lie on its boundary, which are matched, and what is covered.
use Rattle.std.specs.Prelude.{◌≡◌, ◌≢◌, ◌⊎◌, ℕ, List, pos, negsuc, Contains}
use Rattle.git_defs.specs.Vectors.{Vector, AllOfLength, dot, scale, vector_sum, zero_vector}
use Rattle.git_defs.specs.Cones.{InCone, Cut}
use Rattle.git_cone_faces.specs.Faces.{on_wall, IsFullCone}
use Rattle.git_cone_faces.specs.Families.{Cone}

-- the facet n of C lies on the boundary: some wall is 0 at the sum of the rays on it
pub record IsBoundary (k : ℕ) (walls : List Vector) (C : Cone) (n : Vector) : Type 0 where
  pub wall : Vector
  pub listed : Contains walls wall
  pub level : dot wall (vector_sum k (on_wall n C.rays)) ≡ pos 0

-- the facet n of C is matched: one of the cones has it turned round, and has the rays of C on it
pub record IsMatched (cones : List Cone) (C : Cone) (n : Vector) : Type 0 where
  pub other : Cone
  pub listed : Contains cones other
  pub turned : Contains other.facets (scale (negsuc 0) n)
  pub shared : (r : Vector) → Contains (on_wall n C.rays) r → Contains other.rays r

-- each facet of each cone lies on the boundary or is matched
abbrev pub AllAreMatched : ℕ → List Vector → List Cone → Type 0
AllAreMatched k walls cones = (C : Cone) (n : Vector) → Contains cones C → Contains C.facets n → IsBoundary k walls C n ⊎ IsMatched cones C n

-- full cones within the cone that the walls cut out, none of which is 0
pub record AreFullWithin (k : ℕ) (walls : List Vector) (cones : List Cone) : Type 0 where
  pub entries : AllOfLength k walls
  pub nonzero : (g : Vector) → Contains walls g → g ≢ zero_vector k
  pub full : (C : Cone) → Contains cones C → IsFullCone k C.rays C.facets
  pub within : (C : Cone) (r : Vector) → Contains cones C → Contains C.rays r → Cut k walls r

-- one of the cones holds w
pub record IsCovered (k : ℕ) (cones : List Cone) (w : Vector) : Type 0 where
  pub cone : Cone
  pub listed : Contains cones cone
  pub holds : InCone k cone.rays w
