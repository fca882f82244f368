-- What is asked of the chambers of a listing, whoever wrote it. A chamber's printed rays tell which cones hold them.
use Rattle.std.specs.Prelude.{◌≡◌, ◌↔◌, ℕ, ◌+◌, Bool, IsTrue, List, Some, slice_get}
use Rattle.git_defs.specs.Vectors.{Vector, HasRank, vector_sum}
use Rattle.git_defs.specs.Cones.{AreFacets, AreRays}
use Rattle.git_machine.specs.Signatures.{Signature, Has}
use Rattle.git_orbit.specs.Orbits.{Fan}
use Rattle.git_orbit.specs.Signatures.{InChamber, IsHolding, IsSignature}
use Rattle.git_listing.specs.Listings.{Side, boundary, inner, Facet, Chamber, RaysPrecede, normals_of}
use Rattle.git_chamber.specs.Chambers.{IsInner, IsMark, IsNarrow, crossing}
use Rattle.git_chamber.specs.Listings.{IsMatched}
use Rattle.git_asked.specs.Ways.{LedTo}

-- ---- of a chamber by itself
module _ (fan : Fan) (c : Chamber) where
  -- where some cone holds the rays, the facets of those that do are not wide
  abbrev pub AsksNarrow : Type 0
  AsksNarrow = (s : Signature) (member : ℕ) → IsHolding fan c.rays s → Has s member → IsNarrow fan s

  -- some cone holds the rays, they are those of the intersection of all that do, and they have full rank
  abbrev pub AsksRays : Type 0
  AsksRays = (s : Signature) × IsHolding fan c.rays s × ((member : ℕ) × Has s member) × AreRays fan.k (InChamber fan s) c.rays × HasRank fan.k c.rays

  abbrev pub AsksWeight : Type 0
  AsksWeight = c.weight ≡ vector_sum fan.k c.rays

  -- the mark is that of the cones that hold the rays
  abbrev pub AsksMark : Type 0
  AsksMark = (s : Signature) → IsHolding fan c.rays s → IsMark fan s (vector_sum fan.k c.rays) c.crossed

  -- the normals are those of the facets of their intersection
  abbrev pub AsksFacets : Type 0
  AsksFacets = (s : Signature) → IsHolding fan c.rays s → AreFacets fan.k (InChamber fan s) (normals_of c)

-- ---- of a facet of a chamber
-- boundary or inner, as it is crossed
abbrev pub KindFits : Fan → List Vector → Vector → Side → Type 0
KindFits fan rays n boundary = IsInner fan rays n → ⊥
KindFits fan rays n (inner number matched) = IsInner fan rays n

abbrev pub AsksKind : Fan → Chamber → Facet → Type 0
AsksKind fan c f = KindFits fan c.rays f.normal f.side

-- the chamber d has the place in the list that the number says, from 1
pub record IsNumber (cs : List Chamber) (number : ℕ) (d : Chamber) : Type 0 where
  pub place : ℕ
  pub is : number ≡ place + 1
  pub there : slice_get cs place ≡ Some d

-- some chamber has the number, and the cones that hold its rays are those on the other side of the wall
abbrev pub LeadsTo : Fan → List Chamber → List Vector → Vector → Side → Type 0
LeadsTo fan cs rays n boundary = Unit {0}
LeadsTo fan cs rays n (inner number matched) = (d : Chamber) × IsNumber cs number d × ((s : Signature) → IsHolding fan d.rays s → IsSignature fan (crossing fan.k rays n) s)

abbrev pub AsksNeighbour : Fan → List Chamber → Chamber → Facet → Type 0
AsksNeighbour fan cs c f = LeadsTo fan cs c.rays f.normal f.side

-- the wall is said to be shared exactly where it is, with the chamber that is named
abbrev pub MatchFits : List Chamber → List Vector → Vector → Side → Type 0
MatchFits cs rays n boundary = Unit {0}
MatchFits cs rays n (inner number matched) = (d : Chamber) → IsNumber cs number d → IsTrue matched ↔ IsMatched n rays d

abbrev pub AsksMatch : List Chamber → Chamber → Facet → Type 0
AsksMatch cs c f = MatchFits cs c.rays f.normal f.side

-- ---- of the list
-- the chamber comes after the one before
abbrev pub AsksOrder : List Chamber → ℕ → Type 0
AsksOrder cs i = (h : ℕ) (b c : Chamber) → i ≡ h + 1 → slice_get cs h ≡ Some b → slice_get cs i ≡ Some c → RaysPrecede b c

-- the chamber at place i names that at place m beside a facet
pub record Names (cs : List Chamber) (i m : ℕ) : Type 0 where
  pub chamber : Chamber
  pub there : slice_get cs i ≡ Some chamber
  pub place : ℕ
  pub facet : Facet
  pub stands : slice_get chamber.facets place ≡ Some facet
  pub matched : Bool
  pub is : facet.side ≡ inner (m + 1) matched

-- the first cones are those that hold the rays of the chamber at this place
pub record IsFirstPlace (fan : Fan) (first : Signature) (cs : List Chamber) (b : ℕ) : Type 0 where
  pub chamber : Chamber
  pub there : slice_get cs b ≡ Some chamber
  pub holding : IsHolding fan chamber.rays first

-- the chamber at place i is reached from the first by listed facets
abbrev pub IsNamedFromFirst : Fan → Signature → List Chamber → ℕ → Type 0
IsNamedFromFirst fan first cs i = (b : ℕ) × IsFirstPlace fan first cs b × LedTo (Names cs) b i
