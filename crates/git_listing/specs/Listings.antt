-- What a listing of chambers says.
use Rattle.std.specs.Prelude.{◌≡◌, ◌⊎◌, ℕ, Bool, false, List, Option, None, map, IsNone, All, ⊤}
use Rattle.std.specs.Ordering.{int_cmp}
use Rattle.std.specs.declared.cmp.Ordering.TheVariants.{Less}
use Rattle.std.specs.Cmp.Lexicographic.{slice_cmp}
use Rattle.git_defs.specs.Vectors.{Vector}

-- what lies behind a facet: nothing, or the chamber with this number, from 1, and whether that one shares the whole wall
pub data Side : Type 0 where
  boundary : Side
  inner : ℕ → Bool → Side

-- a facet by its inner normal
pub record Facet : Type 0 where
  pub normal : Vector
  pub side : Side

-- a chamber by its extreme vectors and facets, the weight that stands for it, and the cone by which it is marked
pub record Chamber : Type 0 where
  pub rays : List Vector
  pub weight : Vector
  pub crossed : Option ℕ
  pub facets : List Facet

-- the version of the text, the sizes of the matrix, the number of distinct cones, and the chambers
pub record Listing : Type 0 where
  pub version : ℕ
  pub k : ℕ
  pub r : ℕ
  pub cones : ℕ
  pub chambers : List Chamber

abbrev pub normals_of : Chamber → List Vector
normals_of c = map (λ (f : Facet). f.normal) c.facets

-- the order of chambers: that of their lists of rays
abbrev pub RaysPrecede : Chamber → Chamber → Type 0
RaysPrecede c d = slice_cmp (slice_cmp int_cmp) c.rays d.rays ≡ Less

-- ---- the two versions
-- nothing is said of whether a wall is shared
abbrev pub IsUnmatched : Side → Type 0
IsUnmatched boundary = ⊤
IsUnmatched (inner number matched) = matched ≡ false

-- a chamber without marks
pub record IsUnmarked (c : Chamber) : Type 0 where
  pub crossed : IsNone c.crossed
  pub sides : All (λ (f : Facet). IsUnmatched f.side) c.facets

-- version 1 has no marks
abbrev pub FitsVersion : Listing → Type 0
FitsVersion l = ((l.version ≡ 1) × All IsUnmarked l.chambers) ⊎ (l.version ≡ 2)

-- ---- a listing as version 1 has it
abbrev pub old_side : Side → Side
old_side boundary = boundary
old_side (inner number matched) = inner number false

abbrev pub old_facet : Facet → Facet
old_facet f = record { normal = f.normal; side = old_side f.side }

abbrev pub old_chamber : Chamber → Chamber
old_chamber c = record { rays = c.rays; weight = c.weight; crossed = None; facets = map old_facet c.facets }

-- the same without marks
abbrev pub old_of : Listing → Listing
old_of l = record { version = 1; k = l.k; r = l.r; cones = l.cones; chambers = map old_chamber l.chambers }
