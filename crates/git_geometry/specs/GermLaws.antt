-- Germs and the cones that hold them.
use Rattle.std.specs.Prelude.{◌≢◌, ◌↔◌, ◌≤ℤ◌, ◌<ℤ◌, ℕ, List, pos, All}
use Rattle.git_defs.specs.Vectors.{Vector, zero_vector, dot, vector_sum, AllOfLength, HasRank}
use Rattle.git_defs.specs.Cones.{InCone, Cut, SameSet}
use Rattle.git_geometry.specs.Germs.{Holds, HasNoNegative, EndsWithUnits, HasInside}

-- what normals cut out holds a germ exactly where for each normal the first nonzero product is positive, or all are 0
abbrev pub GermIsHeldExactly : Type 0
GermIsHeldExactly = (k : ℕ) (normals germ : List Vector) → AllOfLength k germ → (Holds k (Cut k normals) germ ↔ HasNoNegative normals germ)

-- nonzero normals whose cone holds a germ that ends with the unit vectors have an inside point
abbrev pub HeldGermComesInside : Type 0
HeldGermComesInside = (k : ℕ) (normals germ : List Vector) → AllOfLength k normals → All (λ n. n ≢ zero_vector k) normals
    → EndsWithUnits k germ → Holds k (Cut k normals) germ → HasInside k normals

-- the sum of vectors of full rank is inside, where no nonzero normal is negative on one of them
abbrev pub SumOfFullRankIsInside : Type 0
SumOfFullRankIsInside = (k : ℕ) (vs normals : List Vector) → AllOfLength k vs → HasRank k vs → AllOfLength k normals
    → All (λ n. n ≢ zero_vector k) normals → All (λ n. All (λ v. pos 0 ≤ℤ dot n v) vs) normals → All (λ n. pos 0 <ℤ dot n (vector_sum k vs)) normals

-- nonzero normals cut out a cone of full dimension exactly where it has an inside point
abbrev pub InsideExactlyWithFullDimension : Type 0
InsideExactlyWithFullDimension = (k : ℕ) (normals vs : List Vector) → AllOfLength k normals → All (λ n. n ≢ zero_vector k) normals → AllOfLength k vs
    → SameSet (Cut k normals) (InCone k vs) → (HasInside k normals ↔ HasRank k vs)
