-- The moving chambers of a listing with their parts, and why they aren't told.
use Rattle.std.specs.Prelude.{◌≡◌, ◌⊎◌, ◌+◌, ◌<◌, ℕ, List, Option, None, Some, map, length, All, AllPairs, Contains}
use Rattle.std.specs.List.{AllZip}
use Rattle.git_defs.specs.Vectors.{Vector, HasRank}
use Rattle.git_minors.specs.Minors.{without}
use Rattle.git_stages.specs.Wide.{IsWideAt}
use Rattle.git_stages.specs.declared.wide.WideAt.{WideAt}
use Rattle.git_listing.specs.Listings.{Side, boundary, inner, Facet, Chamber}
use Rattle.git_mori.specs.Mov.{HasNumber, IsMoving, IsMovingNumber}
use Rattle.git_mori.specs.Parts.{IsPart}
use Rattle.git_mori.specs.declared.moving.MoriFacet.{MoriFacet}
use Rattle.git_mori.specs.declared.moving.Moving.{Moving}
use Rattle.git_mori.specs.declared.moving.MoriFault.{MoriFault}
use Rattle.git_mori.specs.declared.moving.MoriFault.TheVariants as fault

-- the chamber of the kind to which an inner facet leads, if it leads to one
abbrev pub LeadsTo : (ℕ → Type 0) → Side → Option ℕ → Type 0
LeadsTo Kind boundary to = to ≡ None
LeadsTo Kind (inner number matched) to = (Kind number × (to ≡ Some number)) ⊎ ((Kind number → ⊥) × (to ≡ None))

pub record IsMoriFacet (Kind : ℕ → Type 0) (f : Facet) (m : MoriFacet) : Type 0 where
  pub normal : m.normal ≡ f.normal
  pub leads : LeadsTo Kind f.side m.to

-- a chamber by its number, its part and its facets
pub record MovingChamber : Type 0 where
  pub number : ℕ
  pub part : ℕ
  pub facets : List MoriFacet

abbrev pub moving_chamber : Moving → MovingChamber
moving_chamber m = record { number = m.number; part = m.part; facets = m.facets.items }

abbrev pub number_of : MovingChamber → ℕ
number_of m = m.number

-- a chamber of the kind with its number, its part and its facets
pub record IsTold (Kind : ℕ → Type 0) (chambers : List Chamber) (m : MovingChamber) : Type 0 where
  pub kind : Kind m.number
  pub part : IsPart Kind chambers m.number m.part
  pub chamber : Chamber
  pub has_number : HasNumber chambers m.number chamber
  pub facets : AllZip (IsMoriFacet Kind) chamber.facets m.facets

-- exactly the chambers of the kind, ascending
pub record AreTold (Kind : ℕ → Type 0) (chambers : List Chamber) (ms : List MovingChamber) : Type 0 where
  pub ascending : AllPairs (λ (m n : MovingChamber). m.number < n.number) ms
  pub each : All (IsTold Kind chambers) ms
  pub complete : (number : ℕ) → Kind number → Contains (map number_of ms) number

-- the moving chambers
abbrev pub AreMoving : ℕ → List Vector → List Chamber → List MovingChamber → Type 0
AreMoving k columns chambers ms = AreTold (IsMovingNumber k columns chambers) chambers ms

-- the columns but one have full rank and are wide
abbrev pub IsWideWithout : ℕ → List Vector → ℕ → WideAt → Type 0
IsWideWithout k columns i at = HasRank k (without i columns) × IsWideAt k (without i columns) at.stage at.what

-- this is so of none of the first columns
abbrev pub NoneWide : ℕ → List Vector → ℕ → Type 0
NoneWide k columns count = (i : ℕ) (at : WideAt) → i < count → IsWideWithout k columns i at → ⊥

-- the first column, from 1, without which the columns are wide
pub record IsFirstWideColumn (k : ℕ) (columns : List Vector) (column : ℕ) (at : WideAt) : Type 0 where
  pub place : ℕ
  pub is : column ≡ place + 1
  pub in_range : place < length columns
  pub wide : IsWideWithout k columns place at
  pub first : NoneWide k columns place

abbrev pub IsMoriFault : ℕ → List Vector → MoriFault → Type 0
IsMoriFault k columns (fault.Wide column at) = IsFirstWideColumn k columns column at
IsMoriFault k columns fault.NoMemory = Unit {0}
