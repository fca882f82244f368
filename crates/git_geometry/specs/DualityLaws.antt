-- Cones by generators and cones by inequalities are the same sets.
use Rattle.std.specs.Prelude.{◌≡◌, ◌⊎◌, ℕ, List, length}
use Rattle.git_defs.specs.Vectors.{Vector, AllOfLength, HasRank}
use Rattle.git_defs.specs.Cones.{InCone, Cut, Dual, SameSet, IsPointed, AreFacets}
use Rattle.git_geometry.specs.Generators.{Separated, IsGenerated, IsCutOut}

-- Farkas: a vector is in the cone, or some vector separates it from the generators
abbrev pub MemberOrSeparated : Type 0
MemberOrSeparated = (k : ℕ) (vs : List Vector) (x : Vector) → AllOfLength k vs → length x ≡ k → InCone k vs x ⊎ Separated k vs x

-- Minkowski: what finitely many inequalities cut out is the cone of finitely many vectors
abbrev pub CutConeIsGenerated : Type 0
CutConeIsGenerated = (k : ℕ) (inequalities : List Vector) → IsGenerated k (Cut k inequalities)

-- Weyl: finitely many inequalities cut out the cone of finitely many vectors
abbrev pub ConeIsCutOut : Type 0
ConeIsCutOut = (k : ℕ) (vs : List Vector) → AllOfLength k vs → IsCutOut k (InCone k vs)

-- normals that generate the dual cone of some vectors cut out the cone of these vectors
abbrev pub NormalsCutOutCone : Type 0
NormalsCutOutCone = (k : ℕ) (vs normals : List Vector) → AllOfLength k vs → AllOfLength k normals
    → SameSet (Cut k vs) (InCone k normals) → SameSet (Cut k normals) (InCone k vs)

-- the dual of the dual of a cone is the cone
abbrev pub DualOfDualIsCone : Type 0
DualOfDualIsCone = (k : ℕ) (vs : List Vector) → AllOfLength k vs → SameSet (Dual k (Dual k (InCone k vs))) (InCone k vs)

-- the facets of a cone of full dimension cut it out
abbrev pub FacetsCutOutCone : Type 0
FacetsCutOutCone = (k : ℕ) (vs facets : List Vector) → AllOfLength k vs → HasRank k vs
    → AreFacets k (InCone k vs) facets → SameSet (InCone k vs) (Cut k facets)

-- and if it is pointed, k of them are independent
abbrev pub FacetsHaveFullRank : Type 0
FacetsHaveFullRank = (k : ℕ) (vs facets : List Vector) → AllOfLength k vs → HasRank k vs
    → IsPointed k (InCone k vs) → AreFacets k (InCone k vs) facets → HasRank k facets
