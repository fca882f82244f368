-- The limits of a listing that has a text.
use Rattle.std.specs.Prelude.{◌≡◌, ◌⊎◌, ℕ, ◌≤◌, ◌^◌, false, length, unsigned_abs, Option, None, Some}
use Rattle.std.specs.List.{AllByRecursion}
use Rattle.git_defs.specs.Vectors.{Vector}
use Rattle.git_limits.specs.declared.TheConstants.{ROWS, COLUMNS}
use Rattle.git_listing.specs.declared.limits.TheConstants.{LISTED, LAST_CONE}
use Rattle.git_listing.specs.Listings.{Side, boundary, inner, Facet, Chamber, Listing}

-- so many entries, each within the limit
pub record FitsVector (k limit : ℕ) (v : Vector) : Type 0 where
  pub entries : length v ≡ k
  pub small : AllByRecursion (λ z. unsigned_abs z ≤ limit) v

abbrev pub IsCount : ℕ → Type 0
IsCount n = (1 ≤ n) × (n ≤ LISTED)

-- an inner facet names a chamber; version 1 doesn't say whether the wall is shared
abbrev pub FitsSide : ℕ → Side → Type 0
FitsSide version boundary = Unit {0}
FitsSide version (inner number matched) = IsCount number × (version ≡ 1 → matched ≡ false)

abbrev pub FitsFacet : ℕ → ℕ → Facet → Type 0
FitsFacet version k f = FitsVector k (2 ^ 40) f.normal × FitsSide version f.side

-- a mark is the number of a cone; version 1 has none
abbrev pub FitsMark : ℕ → Option ℕ → Type 0
FitsMark version None = Unit {0}
FitsMark version (Some cone) = (cone ≤ LAST_CONE) × (version ≡ 2)

pub record FitsChamber (version k : ℕ) (c : Chamber) : Type 0 where
  pub ray_count : IsCount (length c.rays)
  pub rays : AllByRecursion (FitsVector k (2 ^ 40)) c.rays
  pub weight : FitsVector k (2 ^ 57) c.weight
  pub mark : FitsMark version c.crossed
  pub facet_count : IsCount (length c.facets)
  pub facets : AllByRecursion (FitsFacet version k) c.facets

abbrev pub AreSizes : ℕ × ℕ → Type 0
AreSizes s = (1 ≤ s.0) × (s.0 ≤ ROWS) × (1 ≤ s.1) × (s.1 ≤ COLUMNS)

abbrev pub IsVersion : ℕ → Type 0
IsVersion version = (version ≡ 1) ⊎ (version ≡ 2)

pub record FitsListing (l : Listing) : Type 0 where
  pub version : IsVersion l.version
  pub sizes : AreSizes (l.k, l.r)
  pub cones : IsCount l.cones
  pub chamber_count : IsCount (length l.chambers)
  pub chambers : AllByRecursion (FitsChamber l.version l.k) l.chambers
