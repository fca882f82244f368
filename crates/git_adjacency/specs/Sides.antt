-- Vectors with marks on the sides of an inequality.
use Rattle.std.specs.Prelude.{◌≡◌, ◌⊎◌, ◌↔◌, ◌<◌, ◌≤◌, ◌*◌, ◌+◌, ◌<ℤ◌, ℕ, List, [], ◌∷◌, ◌++◌, length, pos, All, Contains}
use Rattle.git_defs.specs.Vectors.{Vector, AllOfLength, dot}
use Rattle.git_defs.specs.Cones.{Cut}
use Rattle.git_geometry.specs.Zeros.{Adjacent, ZeroOnBoth}
use Rattle.git_geometry.specs.Stages.{blend}
use Rattle.git_ints.specs.Content.{IsPrimitivePart}
use Rattle.git_stages.specs.Short.{IsShort}
use Rattle.git_adjacency.specs.Marks.{IsMarked, vectors}
use Rattle.git_adjacency.specs.declared.ray.Ray.{Ray}
use Rattle.git_adjacency.specs.declared.stage.Sides.{Sides}

abbrev pub IsMarkedRay : List Vector → ℕ → Ray → Type 0
IsMarkedRay A width ray = IsMarked A width ray.vector ray.zeros.items

pub record AreMarkedSides (A : List Vector) (width : ℕ) (sides : Sides) : Type 0 where
  pub above : All (IsMarkedRay A width) sides.above.items
  pub level : All (IsMarkedRay A width) sides.level.items
  pub below : All (IsMarkedRay A width) sides.below.items

-- all vectors
abbrev pub all_of : Sides → List Vector
all_of sides = vectors sides.above.items ++ (vectors sides.level.items ++ vectors sides.below.items)

-- among the vectors of k entries are all inequalities that are 0 on both
pub record HasZeros (k : ℕ) (A : List Vector) (r s : Vector) (zeros : List Vector) : Type 0 where
  pub entries : AllOfLength k zeros
  pub all : (a : Vector) → Contains A a → ZeroOnBoth r s a → Contains zeros a

-- what the making of a blend needs of a vector
pub record IsFit (k : ℕ) (front upto : List Vector) (width : ℕ) (ray : Ray) : Type 0 where
  pub short : IsShort k ray.vector
  pub marked : IsMarked upto width ray.vector ray.zeros.items
  pub inside : Cut k front ray.vector

-- and of all
pub record IsReady (k : ℕ) (front upto : List Vector) (b : Vector) (width : ℕ) (sides : Sides) : Type 0 where
  pub last : upto ≡ front ++ b ∷ []
  pub room : length front < 64 * width
  pub inequality : IsShort k b
  pub short : All (IsShort k) upto
  pub marked : AreMarkedSides upto width sides
  pub above : (r : Ray) → Contains sides.above.items r → IsFit k front upto width r × (pos 0 <ℤ dot b r.vector)
  pub below : (r : Ray) → Contains sides.below.items r → IsFit k front upto width r × (dot b r.vector <ℤ pos 0)
  pub enough : (r s : Vector) → Contains (all_of sides) r → Contains (all_of sides) s → pos 0 <ℤ dot b r → dot b s <ℤ pos 0 → Adjacent upto (all_of sides) r s
      → (zeros : List Vector) → HasZeros k upto r s zeros → k ≤ length zeros + 2

-- a blend was added
pub record Added (upto all : List Vector) (b : Vector) (width : ℕ) (r s : Vector) (old new : List Ray) : Type 0 where
  pub ray : Ray
  pub is : new ≡ old ++ ray ∷ []
  pub adjacent : Adjacent upto all r s
  pub part : IsPrimitivePart (blend b r s) ray.vector
  pub marked : IsMarked upto width ray.vector ray.zeros.items

-- or the two are no neighbours
abbrev pub HasAdded : List Vector → List Vector → Vector → ℕ → Vector → Vector → List Ray → List Ray → Type 0
HasAdded upto all b width r s old new = Added upto all b width r s old new ⊎ ((Adjacent upto all r s → ⊥) × (new ≡ old))

pub record IsMoved (from old new : List Ray) : Type 0 where
  pub each : (x : Ray) → Contains new x ↔ (Contains old x ⊎ Contains from x)
