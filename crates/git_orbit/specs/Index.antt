-- The distinct facets of a fan's cones, and which of the cones have each.
use Rattle.std.specs.Prelude.{◌≡◌, ◌↔◌, ◌⊎◌, ℕ, ◌<◌, List, [], length, get_or, AllPairs, Contains}
use Rattle.git_defs.specs.Vectors.{Vector, Precedes}
use Rattle.git_machine.specs.Signatures.{Signature, Has}
use Rattle.git_orbit.specs.declared.orbit.OrbitCone.{OrbitCone}
use Rattle.git_orbit.specs.Orbits.{Fan, IsFan}
use Rattle.git_orbit.specs.Signatures.{facets_at, width_of}

-- the set of the numbers of the cones of which P holds, with a signature's width
pub record IsConeSet (fan : Fan) (P : ℕ → Type 0) (set : Signature) : Type 0 where
  pub width : length set ≡ width_of fan
  pub each : (i : ℕ) → Has set i ↔ ((i < length fan.list) × P i)

-- the cone with this number has the normal as a facet
abbrev pub HasFacet : Fan → Vector → ℕ → Type 0
HasFacet fan n i = Contains (facets_at fan i) n

-- the facets of the first so many cones, in any order, and perhaps with repeats
abbrev pub AreFacetsBelow : Fan → ℕ → List Vector → Type 0
AreFacetsBelow fan count all = (n : Vector) → Contains all n ↔ ((i : ℕ) × (i < count) × HasFacet fan n i)

-- the distinct facets of all cones, in order
pub record AreNormals (fan : Fan) (normals : List Vector) : Type 0 where
  pub ordered : AllPairs Precedes normals
  pub each : AreFacetsBelow fan (length fan.list) normals

-- for each of the normals the set of the cones that have it as a facet
pub record AreFacetSets (fan : Fan) (normals : List Vector) (sets : List Signature) : Type 0 where
  pub long : length sets ≡ length normals
  pub each : (p : ℕ) → p < length normals → IsConeSet fan (HasFacet fan (get_or normals p [])) (get_or sets p [])

-- the distinct facets, for each the cones that have it, and the set of all cones
pub record IsIndex (fan : Fan) (normals : List Vector) (sets : List Signature) (all : Signature) : Type 0 where
  pub normals_are : AreNormals fan normals
  pub sets_are : AreFacetSets fan normals sets
  pub all_is : IsConeSet fan (λ i. Unit {0}) all

-- the cones of some faces, with their index
pub record IsIndexed (k : ℕ) (list : List OrbitCone) (normals : List Vector) (sets : List Signature) (all : Signature) : Type 0 where
  pub fan : IsFan k list
  pub index : IsIndex (record { k = k; list = list }) normals sets all

-- so many empty sets of this width
pub record AreEmpty (count width : ℕ) (sets : List Signature) : Type 0 where
  pub long : length sets ≡ count
  pub width_is : (p : ℕ) → p < count → length (get_or sets p []) ≡ width
  pub none : (p n : ℕ) → p < count → Has (get_or sets p []) n → ⊥

-- the number i is put into those of the sets whose places P holds of
pub record IsPutWhere (P : ℕ → Type 0) (i : ℕ) (old new : List Signature) : Type 0 where
  pub long : length new ≡ length old
  pub width : (p : ℕ) → p < length old → length (get_or new p []) ≡ length (get_or old p [])
  pub each : (p n : ℕ) → p < length old → Has (get_or new p []) n ↔ (Has (get_or old p []) n ⊎ ((n ≡ i) × P p))
