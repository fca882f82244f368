-- Double description: the extreme vectors of a cone after one inequality more.
use Rattle.std.specs.Prelude.{◌≡◌, ◌⊎◌, ◌<◌, ◌≤ℤ◌, ◌<ℤ◌, ℕ, List, pos, neg_ℤ, Contains}
use Rattle.git_defs.specs.Vectors.{Vector, scale, plus, dot, IsPrimitive}
use Rattle.git_defs.specs.Cones.{Cut, IsEdge}
use Rattle.git_geometry.specs.Generators.{RayOf}
use Rattle.git_geometry.specs.Zeros.{Adjacent}

-- (b r) s - (b s) r, on which b is 0
abbrev pub blend : Vector → Vector → Vector → Vector
blend b r s = plus (scale (dot b r) s) (scale (neg_ℤ (dot b s)) r)

-- the list has the primitive vectors along the edges of the cone that the inequalities cut out
pub record Exact (k : ℕ) (inequalities list : List Vector) : Type 0 where
  pub edges : (x : Vector) → Contains list x → IsEdge k (Cut k inequalities) x
  pub primitive : (x : Vector) → Contains list x → IsPrimitive x
  pub complete : (x : Vector) → IsEdge k (Cut k inequalities) x → RayOf list x

-- x is the primitive vector along the blend of two neighbours, one above b and one below
pub record IsBlended (inequalities list : List Vector) (b x : Vector) : Type 0 where
  pub over : Vector
  pub under : Vector
  pub over_in : Contains list over
  pub under_in : Contains list under
  pub above : pos 0 <ℤ dot b over
  pub below : dot b under <ℤ pos 0
  pub adjacent : Adjacent inequalities list over under
  pub times : ℕ
  pub positive : 0 < times
  pub is : scale (pos times) x ≡ blend b over under
  pub primitive : IsPrimitive x

-- a member of the list along the vector y
pub record HasAlong (list : List Vector) (y : Vector) : Type 0 where
  pub vector : Vector
  pub member : Contains list vector
  pub times : ℕ
  pub positive : 0 < times
  pub is : scale (pos times) vector ≡ y

-- the next list, after the inequality b: those on its side, and the blends of neighbours across it
pub record IsNext (inequalities list : List Vector) (b : Vector) (next : List Vector) : Type 0 where
  pub from : (x : Vector) → Contains next x → (Contains list x × (pos 0 ≤ℤ dot b x)) ⊎ IsBlended inequalities list b x
  pub kept : (r : Vector) → Contains list r → pos 0 ≤ℤ dot b r → Contains next r
  pub made : (r s : Vector) → Contains list r → Contains list s → pos 0 <ℤ dot b r → dot b s <ℤ pos 0 → Adjacent inequalities list r s
      → HasAlong next (blend b r s)
