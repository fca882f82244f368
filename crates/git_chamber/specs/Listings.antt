-- The listing of the chambers that are reached.
use Rattle.std.specs.Prelude.{◌≡◌, ◌↔◌, ◌+◌, ◌<◌, ℕ, Bool, List, ◌∷◌, [], None, negsuc, length, get_or, All, AllPairs, IsTrue}
use Rattle.std.specs.List.{AllZip, Contains}
use Rattle.git_defs.specs.Vectors.{Vector, scale}
use Rattle.git_cone_faces.specs.Faces.{on_wall}
use Rattle.git_machine.specs.Signatures.{Signature}
use Rattle.git_machine.specs.Reach.{Reached}
use Rattle.git_orbit.specs.Orbits.{Fan}
use Rattle.git_orbit.specs.Signatures.{IsSignature}
use Rattle.git_listing.specs.Listings.{Side, boundary, inner, Facet, Chamber, Listing, RaysPrecede, normals_of}
use Rattle.git_chamber.specs.Chambers.{crossing, IsChamber, IsInner, IsMark, IsNarrow, IsNext}

-- the wall with normal n of a chamber with these rays is a wall of another, turned round, with the same rays on it
pub record SharesWall (n : Vector) (rays other_rays other_facets : List Vector) : Type 0 where
  pub facet : Contains other_facets (scale (negsuc 0) n)
  pub wall : on_wall n rays ≡ on_wall n other_rays

abbrev pub IsMatched : Vector → List Vector → Chamber → Type 0
IsMatched n rays other = SharesWall n rays other.rays (normals_of other)

-- what stands past the end of a list of chambers
abbrev pub no_chamber : Chamber
no_chamber = record { rays = []; weight = []; crossed = None; facets = [] }

-- the signature of the crossing has this number in the list, from 1, and the chamber with this number shares the whole wall or not
pub record IsNumbered (fan : Fan) (sigs : List Signature) (chambers : List Chamber) (rays : List Vector) (n : Vector) (number : ℕ) (matched : Bool) : Type 0 where
  pub place : ℕ
  pub in_range : place < length sigs
  pub is : number ≡ place + 1
  pub signature : IsSignature fan (crossing fan.k rays n) (get_or sigs place [])
  pub mark : IsTrue matched ↔ IsMatched n rays (get_or chambers place no_chamber)

-- what lies behind a facet, beside the listed signatures and their chambers
abbrev pub IsSide : Fan → List Signature → List Chamber → List Vector → Vector → Side → Type 0
IsSide fan sigs chambers rays n boundary = IsInner fan rays n → ⊥
IsSide fan sigs chambers rays n (inner number matched) = IsInner fan rays n × IsNumbered fan sigs chambers rays n number matched

-- the chamber of the signature, and its mark
pub record IsListed (fan : Fan) (sigs : List Signature) (chambers : List Chamber) (sig : Signature) (c : Chamber) : Type 0 where
  pub narrow : IsNarrow fan sig
  pub chamber : IsChamber fan sig c.rays (normals_of c) c.weight
  pub mark : IsMark fan sig c.weight c.crossed
  pub sides : All (λ (f : Facet). IsSide fan sigs chambers c.rays f.normal f.side) c.facets

-- the chambers of the signatures that are reached from the first, in the order of their rays
pub record IsListing (fan : Fan) (first : Signature) (r : ℕ) (l : Listing) : Type 0 where
  pub version : l.version ≡ 2
  pub k : l.k ≡ fan.k
  pub columns : l.r ≡ r
  pub cones : l.cones ≡ length fan.list
  pub sigs : List Signature
  pub sound : All (Reached (IsNext fan) first) sigs
  pub complete : (s : Signature) → Reached (IsNext fan) first s → Contains sigs s
  pub ordered : AllPairs RaysPrecede l.chambers
  pub each : AllZip (IsListed fan sigs l.chambers) sigs l.chambers
