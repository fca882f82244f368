-- What is asked of a listing, by reason and line. The lines are those of its printed text, from 1.
use Rattle.std.specs.Prelude.{◌≡◌, ◌⊎◌, ℕ, ◌+◌, List, length, map, sum, take, Option, Some, None, IsNone, All, slice_get}
use Rattle.git_machine.specs.Signatures.{Signature}
use Rattle.git_orbit.specs.Orbits.{Fan}
use Rattle.git_listing.specs.Listings.{Facet, Chamber, Listing, old_of}
use Rattle.git_chamber.specs.Listings.{IsListing}
use Rattle.git_asked.specs.declared.finding.Reason.{Reason}
use Rattle.git_asked.specs.declared.finding.Reason.TheVariants.{Shape, ConeCount, Order, WideChamber, Rays, Weight, Mark, FacetSet, FacetKind, Neighbour, MatchKind, FirstMissing, NotReached}
use Rattle.git_asked.specs.Asked.{AsksNarrow, AsksRays, AsksWeight, AsksMark, AsksFacets, AsksKind, AsksNeighbour, AsksMatch, AsksOrder, IsFirstPlace, IsNamedFromFirst}

-- ---- lines
abbrev pub mark_lines : Option ℕ → ℕ
mark_lines None = 0
mark_lines (Some n) = 1

-- the lines of a chamber: its number, its rays, its weight, its mark where it has one, its facets
abbrev pub lines_in : Chamber → ℕ
lines_in c = 2 + length c.rays + mark_lines c.crossed + length c.facets

-- the line of the chamber at place i; four lines stand before the chambers
abbrev pub chamber_line : List Chamber → ℕ → ℕ
chamber_line cs i = 5 + sum (map lines_in (take i cs))

abbrev pub weight_line : List Chamber → ℕ → Chamber → ℕ
weight_line cs i c = chamber_line cs i + 1 + length c.rays

-- of the facet at place j of the chamber c at place i
abbrev pub facet_line : List Chamber → ℕ → Chamber → ℕ → ℕ
facet_line cs i c j = chamber_line cs i + 2 + length c.rays + mark_lines c.crossed + j

-- ---- for each chamber whose line it is, and for each facet
abbrev pub AtChambers : List Chamber → (ℕ → Chamber → Type 0) → ℕ → Type 0
AtChambers cs P line = (i : ℕ) (c : Chamber) → slice_get cs i ≡ Some c → line ≡ chamber_line cs i → P i c

abbrev pub AtWeights : List Chamber → (Chamber → Type 0) → ℕ → Type 0
AtWeights cs P line = (i : ℕ) (c : Chamber) → slice_get cs i ≡ Some c → line ≡ weight_line cs i c → P c

abbrev pub AtFacets : List Chamber → (Chamber → Facet → Type 0) → ℕ → Type 0
AtFacets cs P line = (i : ℕ) (c : Chamber) (j : ℕ) (f : Facet) → slice_get cs i ≡ Some c → slice_get c.facets j ≡ Some f → line ≡ facet_line cs i c j → P c f

-- ---- what is asked for a reason at a line. For those on certificates and on wide cones nothing is asked here
abbrev pub Asks : Fan → Signature → ℕ → Listing → Reason → ℕ → Type 0
Asks fan first r l Shape line = line ≡ 2 → (l.k ≡ fan.k) × (l.r ≡ r)
Asks fan first r l ConeCount line = line ≡ 3 → l.cones ≡ length fan.list
Asks fan first r l Order line = AtChambers l.chambers (λ i c. AsksOrder l.chambers i) line
Asks fan first r l WideChamber line = AtChambers l.chambers (λ i c. AsksNarrow fan c) line
Asks fan first r l Rays line = AtChambers l.chambers (λ i c. AsksRays fan c) line
Asks fan first r l Weight line = AtWeights l.chambers (AsksWeight fan) line
Asks fan first r l Mark line = AtChambers l.chambers (λ i c. AsksMark fan c) line
Asks fan first r l FacetSet line = AtChambers l.chambers (λ i c. AsksFacets fan c) line
Asks fan first r l FacetKind line = AtFacets l.chambers (AsksKind fan) line
Asks fan first r l Neighbour line = AtFacets l.chambers (AsksNeighbour fan l.chambers) line
Asks fan first r l MatchKind line = l.version ≡ 2 → AtFacets l.chambers (AsksMatch l.chambers) line
Asks fan first r l FirstMissing line = line ≡ 4 → (b : ℕ) × IsFirstPlace fan first l.chambers b
Asks fan first r l NotReached line = AtChambers l.chambers (λ i c. IsNamedFromFirst fan first l.chambers i) line
Asks fan first r l reason line = Unit {0}

-- ---- the true listings
-- that of what is reached from the first, or the same without marks where no chamber has one
abbrev pub IsTrueListing : Fan → Signature → ℕ → Listing → Type 0
IsTrueListing fan first r l = IsListing fan first r l ⊎ ((m : Listing) × IsListing fan first r m × All (λ (c : Chamber). IsNone c.crossed) m.chambers × (l ≡ old_of m))
