-- Canonical cones: a pointed cone of full dimension by its rays and its facets.
use Rattle.std.specs.Prelude.{◌≡◌, ◌≢◌, ◌≤◌, ◌<ℤ◌, ℕ, List, [], ◌∷◌, length, pos, Contains, All}
use Rattle.git_defs.specs.Vectors.{Vector, HasRank, zero_vector, dot}
use Rattle.git_defs.specs.Cones.{InCone, Cut, AreRays, AreFacets, SameSet, IsPointed}
use Rattle.git_geometry.specs.Zeros.{Dominates}
use Rattle.git_stages.specs.Short.{IsShort}
use Rattle.git_stages.specs.Wide.{IsWideAt}
use Rattle.git_elimination.specs.declared.fault.StageFault.{StageFault}
use Rattle.git_elimination.specs.declared.fault.StageFault.TheVariants as stage
use Rattle.git_canon.specs.declared.canon.CanonFault.{CanonFault}
use Rattle.git_canon.specs.declared.canon.CanonFault.TheVariants.{Wide, NoMemory}

-- the rays and the facets of C, which they generate and cut out
pub record IsCanon (k : ℕ) (C : Vector → Type 0) (rays facets : List Vector) : Type 0 where
  pub are_rays : AreRays k C rays
  pub are_facets : AreFacets k C facets
  pub generated : SameSet C (InCone k rays)
  pub cut_out : SameSet C (Cut k facets)

-- the number of entries of the first vector
abbrev pub entries_of : List Vector → ℕ
entries_of [] = 0
entries_of (v ∷ vs) = length v

-- what contracts see of a cone: its rays and facets, and their number of entries
pub record Described : Type 0 where
  pub k : ℕ
  pub rays : List Vector
  pub facets : List Vector

-- the rays and the facets of one pointed cone of full dimension, with small entries
pub record IsCanonical (k : ℕ) (rays facets : List Vector) : Type 0 where
  pub some : 1 ≤ k
  pub few : k ≤ 6
  pub canon : IsCanon k (InCone k rays) rays facets
  pub pointed : IsPointed k (InCone k rays)
  pub rays_rank : HasRank k rays
  pub facets_rank : HasRank k facets
  pub rays_short : All (IsShort k) rays
  pub facets_short : All (IsShort k) facets

-- the description is that of the cone C
pub record IsCanonOf (k : ℕ) (C : Vector → Type 0) (c : Described) : Type 0 where
  pub entries : c.k ≡ k
  pub canon : IsCanon k C c.rays c.facets
  pub canonical : IsCanonical k c.rays c.facets

-- the given vectors are wide, first at this stage
abbrev pub IsCanonFault : ℕ → List Vector → CanonFault → Type 0
IsCanonFault k given (Wide at) = IsWideAt k given at.stage at.what
IsCanonFault k given NoMemory = Unit {0}

abbrev pub IsFaultFrom : StageFault → CanonFault → Type 0
IsFaultFrom (stage.Wide at) f = f ≡ Wide at
IsFaultFrom stage.NoMemory f = f ≡ NoMemory

-- some vector is positive on all that are not 0
pub record HasInsideOf (k : ℕ) (given : List Vector) : Type 0 where
  pub point : Vector
  pub entries : length point ≡ k
  pub off : (n : Vector) → Contains given n → n ≢ zero_vector k → pos 0 <ℤ dot n point

-- no other of them dominates r
abbrev pub IsAlone : List Vector → List Vector → Vector → Type 0
IsAlone A given r = (s : Vector) → Contains given s → Dominates A s r → s ≡ r
