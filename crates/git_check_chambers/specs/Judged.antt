-- What is asked of a listing: of its head, of each chamber, and of each facet.
use Rattle.std.specs.Prelude.{◌≡◌, ◌↔◌, ℕ, ◌+◌, ◌<◌, ◌≤◌, List, length, Bool, All}
use Rattle.std.specs.List.{AllZip}
use Rattle.git_machine.specs.Signatures.{Signature}
use Rattle.git_stages.specs.Short.{IsShort}
use Rattle.git_orbit.specs.Orbits.{Fan}
use Rattle.git_orbit.specs.Signatures.{IsHolding}
use Rattle.git_listing.specs.Listings.{Facet, Chamber, Listing, normals_of}
use Rattle.git_asked.specs.declared.finding.Reason.{Reason}
use Rattle.git_asked.specs.declared.finding.Reason.TheVariants.{Shape, ConeCount, Order, WideChamber, Rays, Weight, Mark, FacetSet, FacetKind, Neighbour, MatchKind, FirstMissing, NotReached}
use Rattle.git_asked.specs.Asked.{AsksNarrow, AsksRays, AsksWeight, AsksMark, AsksFacets, AsksKind, AsksNeighbour, AsksMatch, AsksOrder, IsFirstPlace, IsNamedFromFirst}
use Rattle.git_asked.specs.Asks.{chamber_line, facet_line}
use Rattle.git_walk.specs.Walks.{Marked}
use Rattle.git_check_chambers.specs.Families.{AtLines, OfEach}

-- ---- of the head
abbrev pub AsksHead : Fan → Signature → ℕ → Listing → Reason → Type 0
AsksHead fan first r l Shape = (l.k ≡ fan.k) × (l.r ≡ r)
AsksHead fan first r l ConeCount = l.cones ≡ length fan.list
AsksHead fan first r l FirstMissing = (b : ℕ) × IsFirstPlace fan first l.chambers b
AsksHead fan first r l reason = Unit {0}

abbrev pub head_line : Reason → ℕ
head_line Shape = 2
head_line ConeCount = 3
head_line FirstMissing = 4
head_line reason = 0

-- ---- of a chamber by itself
abbrev pub AsksOwn : Fan → Chamber → Reason → Type 0
AsksOwn fan c WideChamber = AsksNarrow fan c
AsksOwn fan c Rays = AsksRays fan c
AsksOwn fan c Weight = AsksWeight fan c
AsksOwn fan c Mark = AsksMark fan c
AsksOwn fan c FacetSet = AsksFacets fan c
AsksOwn fan c reason = Unit {0}

-- of the chamber at place i of the list
abbrev pub AsksChamber : Fan → Signature → List Chamber → ℕ → Chamber → Reason → Type 0
AsksChamber fan first cs i c Order = AsksOrder cs i
AsksChamber fan first cs i c WideChamber = AsksNarrow fan c
AsksChamber fan first cs i c Rays = AsksRays fan c
AsksChamber fan first cs i c Weight = AsksWeight fan c
AsksChamber fan first cs i c Mark = AsksMark fan c
AsksChamber fan first cs i c FacetSet = AsksFacets fan c
AsksChamber fan first cs i c NotReached = IsNamedFromFirst fan first cs i
AsksChamber fan first cs i c reason = Unit {0}

-- the line of the chamber, and that of its weight
abbrev pub reason_line : ℕ → Chamber → Reason → ℕ
reason_line line c Weight = line + 1 + length c.rays
reason_line line c reason = line

-- ---- of a facet
abbrev pub AsksFacet : Fan → ℕ → List Chamber → Chamber → Facet → Reason → Type 0
AsksFacet fan version cs c f FacetKind = AsksKind fan c f
AsksFacet fan version cs c f Neighbour = AsksNeighbour fan cs c f
AsksFacet fan version cs c f MatchKind = version ≡ 2 → AsksMatch cs c f
AsksFacet fan version cs c f reason = Unit {0}

-- at its line
abbrev pub FacetAt : Fan → ℕ → List Chamber → ℕ → Chamber → ℕ → Facet → Reason → ℕ → Type 0
FacetAt fan version cs i c j f = AtLines (λ r. facet_line cs i c j) (AsksFacet fan version cs c f)

-- ---- of the chamber at place i, and of its facets
abbrev pub ChamberAt : Fan → Signature → ℕ → List Chamber → ℕ → Chamber → Reason → ℕ → Type 0
ChamberAt fan first version cs i c r line =
    AtLines (reason_line (chamber_line cs i) c) (AsksChamber fan first cs i c) r line × OfEach (FacetAt fan version cs i c) c.facets r line

-- ---- what is known of printed numbers
-- vectors with k entries of at most 2^40, and at most 65,536 rays
pub record IsSizedChamber (k : ℕ) (c : Chamber) : Type 0 where
  pub rays : All (IsShort k) c.rays
  pub few : length c.rays ≤ 65536
  pub normals : All (IsShort k) (normals_of c)

-- to each chamber the cones that hold its rays
abbrev pub AreHoldings : Fan → List Chamber → List Signature → Type 0
AreHoldings fan cs sigs = AllZip (λ (c : Chamber) (s : Signature). IsHolding fan c.rays s) cs sigs

-- the marks say which chambers are reached from the first
abbrev pub AreReached : Fan → Signature → List Chamber → List Bool → Type 0
AreReached fan start cs marks = (length marks ≡ length cs) × ((i : ℕ) → i < length cs → Marked marks i ↔ IsNamedFromFirst fan start cs i)
