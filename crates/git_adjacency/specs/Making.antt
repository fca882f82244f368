-- The blends of neighbours across an inequality, as they are made.
use Rattle.std.proofs.Common.{◌≡◌, ◌⊎◌, List, [], ◌∷◌, ◌++◌}
use Rattle.std.proofs.Math.IntN.{pos}
use Rattle.std.specs.Prelude.{◌<ℤ◌, Contains}
use Rattle.git_defs.specs.Vectors.{Vector, dot}
use Rattle.git_geometry.specs.Zeros.{Adjacent}
use Rattle.git_geometry.specs.Stages.{blend}
use Rattle.git_ints.specs.Content.{IsPrimitivePart}

-- ---- the three sides of an inequality
pub record IsSided (b : Vector) (R above level below : List Vector) : Type 0 where
  pub above_in : (x : Vector) → Contains above x → Contains R x × (pos 0 <ℤ dot b x)
  pub level_in : (x : Vector) → Contains level x → Contains R x × (dot b x ≡ pos 0)
  pub below_in : (x : Vector) → Contains below x → Contains R x × (dot b x <ℤ pos 0)
  pub split : (x : Vector) → Contains R x → Contains above x ⊎ (Contains level x ⊎ Contains below x)

-- with some vectors left
pub record IsSidedTo (b : Vector) (R left above level below : List Vector) : Type 0 where
  pub left_in : (x : Vector) → Contains left x → Contains R x
  pub above_in : (x : Vector) → Contains above x → Contains R x × (pos 0 <ℤ dot b x)
  pub level_in : (x : Vector) → Contains level x → Contains R x × (dot b x ≡ pos 0)
  pub below_in : (x : Vector) → Contains below x → Contains R x × (dot b x <ℤ pos 0)
  pub split : (x : Vector) → Contains R x → Contains left x ⊎ (Contains above x ⊎ (Contains level x ⊎ Contains below x))

-- one vector is placed
pub record IsPlaced (b v : Vector) (above level below above2 level2 below2 : List Vector) : Type 0 where
  pub is : ((above2 ≡ above ++ v ∷ []) × (level2 ≡ level) × (below2 ≡ below) × (pos 0 <ℤ dot b v))
      ⊎ (((above2 ≡ above) × (level2 ≡ level ++ v ∷ []) × (below2 ≡ below) × (dot b v ≡ pos 0))
      ⊎ ((above2 ≡ above) × (level2 ≡ level) × (below2 ≡ below ++ v ∷ []) × (dot b v <ℤ pos 0)))

-- ---- blends
pub record IsMade (A R : List Vector) (b x : Vector) : Type 0 where
  pub over : Vector
  pub under : Vector
  pub over_in : Contains R over
  pub under_in : Contains R under
  pub above : pos 0 <ℤ dot b over
  pub below : dot b under <ℤ pos 0
  pub adjacent : Adjacent A R over under
  pub part : IsPrimitivePart (blend b over under) x

pub record HasPart (b r s : Vector) (out : List Vector) : Type 0 where
  pub one : Vector
  pub member : Contains out one
  pub part : IsPrimitivePart (blend b r s) one

-- for one vector above, with the neighbours among S
pub record Makes (A R : List Vector) (b r : Vector) (S old new : List Vector) : Type 0 where
  pub more : List Vector
  pub is : new ≡ old ++ more
  pub from : (x : Vector) → Contains more x → IsMade A R b x
  pub each : (s : Vector) → Contains S s → Adjacent A R r s → HasPart b r s more

-- for all vectors of T
pub record MakesAll (A R : List Vector) (b : Vector) (T S old new : List Vector) : Type 0 where
  pub more : List Vector
  pub is : new ≡ old ++ more
  pub from : (x : Vector) → Contains more x → IsMade A R b x
  pub each : (r s : Vector) → Contains T r → Contains S s → Adjacent A R r s → HasPart b r s more
