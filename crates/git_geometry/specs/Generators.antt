-- Cones by finitely many generators or inequalities, and what separates a vector from generators.
use Rattle.std.specs.Prelude.{◌≡◌, ◌≢◌, ◌<◌, ◌<ℤ◌, ◌≤ℤ◌, ℕ, List, pos, length, Contains}
use Rattle.git_defs.specs.Vectors.{Vector, zero_vector, scale, dot, IsPrimitive, AllOfLength}
use Rattle.git_defs.specs.Cones.{InCone, Cut, SameSet, OnRay}

-- a vector that is negative at x and at none of the generators
pub record Separated (k : ℕ) (generators : List Vector) (x : Vector) : Type 0 where
  pub normal : Vector
  pub entries : length normal ≡ k
  pub sides : (v : Vector) → Contains generators v → pos 0 ≤ℤ dot normal v
  pub below : dot normal x <ℤ pos 0

-- the vectors lie in the cone that the inequalities cut out, and generate it
pub record Generates (k : ℕ) (inequalities generators : List Vector) : Type 0 where
  pub inside : (r : Vector) → Contains generators r → Cut k inequalities r
  pub all : (x : Vector) → Cut k inequalities x → InCone k generators x

-- C is the cone of finitely many vectors
pub record IsGenerated (k : ℕ) (C : Vector → Type 0) : Type 0 where
  pub generators : List Vector
  pub entries : AllOfLength k generators
  pub same : SameSet C (InCone k generators)

-- finitely many inequalities cut out C
pub record IsCutOut (k : ℕ) (C : Vector → Type 0) : Type 0 where
  pub inequalities : List Vector
  pub entries : AllOfLength k inequalities
  pub same : SameSet C (Cut k inequalities)

-- a member of the list on whose ray x lies
pub record RayOf (list : List Vector) (x : Vector) : Type 0 where
  pub one : Vector
  pub member : Contains list one
  pub on : OnRay x one

-- a primitive vector of which v is a positive multiple
pub record PrimitivePart (v : Vector) : Type 0 where
  pub times : ℕ
  pub positive : 0 < times
  pub vector : Vector
  pub is : v ≡ scale (pos times) vector
  pub primitive : IsPrimitive vector

-- a vector other than 0 on which all of the list are 0
pub record CommonZero (k : ℕ) (list : List Vector) : Type 0 where
  pub vector : Vector
  pub entries : length vector ≡ k
  pub nonzero : vector ≢ zero_vector k
  pub level : (a : Vector) → Contains list a → dot a vector ≡ pos 0
