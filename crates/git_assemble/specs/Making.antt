-- How the listing is made: the chambers of what is found, their numbers, and their sides by these.
use Rattle.std.specs.Prelude.{◌≡◌, ◌↔◌, ℕ, ◌+◌, ◌-◌, ◌<◌, List, [], map, get_or, None, Some, IsSome, IsTrue, All, slice_get}
use Rattle.std.specs.BTreeMap.{BTreeMap, get}
use Rattle.git_defs.specs.Vectors.{Vector, AllOfLength}
use Rattle.git_machine.specs.Signatures.{Signature, signature_cmp}
use Rattle.git_machine.specs.declared.successors.Found.{Found}
use Rattle.git_orbit.specs.Orbits.{Fan}
use Rattle.git_orbit.specs.Signatures.{IsSignature}
use Rattle.git_listing.specs.Listings.{Side, boundary, inner, Facet, Chamber, normals_of}
use Rattle.git_chamber.specs.Views.{FanChamber}
use Rattle.git_chamber.specs.Chambers.{crossing, IsInner}
use Rattle.git_chamber.specs.Listings.{SharesWall}
use Rattle.git_chamber.specs.declared.cell.Cell.{Cell}
use Rattle.git_chamber.specs.declared.cell.Cell.TheVariants as cell
use Rattle.git_assemble.specs.declared.fault.AssembleFault.{AssembleFault}
use Rattle.git_assemble.specs.declared.fault.AssembleFault.TheVariants.{Wide, NoMemory}

-- ---- what is found

abbrev pub payloads_of : List (Found Cell) → List Cell
payloads_of found = map (λ f. f.payload) found

abbrev pub good_cells : List FanChamber → List Cell
good_cells chambers = map (λ c. cell.Good c) chambers

abbrev pub IsGoodFound : Found Cell → Type 0
IsGoodFound f = (c : FanChamber) × (f.payload ≡ cell.Good c)

-- the fault says why its signature isn't good
abbrev pub IsFaultOf : Found Cell → AssembleFault → Type 0
IsFaultOf f (Wide sig at) = (sig ≡ f.sig) × (f.payload ≡ cell.Wide at)
IsFaultOf f NoMemory = Unit {0}

-- that of one before which all are good
pub record IsFirstFault (found : List (Found Cell)) (fault : AssembleFault) : Type 0 where
  pub place : ℕ
  pub item : Found Cell
  pub is : slice_get found place ≡ Some item
  pub before : (j : ℕ) (f : Found Cell) → j < place → slice_get found j ≡ Some f → IsGoodFound f
  pub fault_of : IsFaultOf item fault

-- ---- numbers

abbrev pub signatures_in : List FanChamber → List Signature
signatures_in chambers = map (λ c. c.sig) chambers

-- each of the signatures has a number, and each number stands at the signature with that place, from 1
pub record IsNumbering (sigs : List Signature) (numbers : BTreeMap Signature ℕ) : Type 0 where
  pub each : All (λ s. IsSome (get signature_cmp numbers s)) sigs
  pub right : (s : Signature) (n : ℕ) → get signature_cmp numbers s ≡ Some n → (p : ℕ) × (n ≡ p + 1) × (slice_get sigs p ≡ Some s)

-- an inner wall leads to a signature that has a number
abbrev pub LeadsInto : Fan → BTreeMap Signature ℕ → List Vector → Vector → Type 0
LeadsInto fan numbers rays n = (t : Signature) → IsInner fan rays n → IsSignature fan (crossing fan.k rays n) t → IsSome (get signature_cmp numbers t)

-- what stands past the end of a list of chambers
abbrev pub nothing : FanChamber
nothing = record { sig = []; rays = []; facets = []; weight = []; crossed = None }

-- the chamber with this number, from 1, shares the whole wall of a chamber with these rays
abbrev pub Shares : List FanChamber → ℕ → List Vector → Vector → Type 0
Shares chambers number rays n = SharesWall n rays (get_or chambers (number - 1) nothing).rays (get_or chambers (number - 1) nothing).facets

-- what lies behind a facet, by the numbers of the chambers
abbrev pub IsNumberedSide : Fan → BTreeMap Signature ℕ → List FanChamber → List Vector → Vector → Side → Type 0
IsNumberedSide fan numbers chambers rays n boundary = IsInner fan rays n → ⊥
IsNumberedSide fan numbers chambers rays n (inner number matched) =
    IsInner fan rays n × (t : Signature) × IsSignature fan (crossing fan.k rays n) t × (get signature_cmp numbers t ≡ Some number) × (IsTrue matched ↔ Shares chambers number rays n)

-- ---- chambers

-- vectors of k entries, and each inner wall leads to a signature that has a number
pub record IsReady (fan : Fan) (numbers : BTreeMap Signature ℕ) (c : FanChamber) : Type 0 where
  pub rays : AllOfLength fan.k c.rays
  pub facets : AllOfLength fan.k c.facets
  pub leads : All (LeadsInto fan numbers c.rays) c.facets

-- the chamber as it is listed
pub record IsMade (fan : Fan) (numbers : BTreeMap Signature ℕ) (chambers : List FanChamber) (c : FanChamber) (l : Chamber) : Type 0 where
  pub same_rays : l.rays ≡ c.rays
  pub same_weight : l.weight ≡ c.weight
  pub same_crossed : l.crossed ≡ c.crossed
  pub same_normals : normals_of l ≡ c.facets
  pub sides : All (λ (f : Facet). IsNumberedSide fan numbers chambers c.rays f.normal f.side) l.facets
