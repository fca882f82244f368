-- Listings whose inner facets are all matched, and the vectors that listed chambers hold.
use Rattle.std.specs.Prelude.{ℕ, IsTrue, Contains, ⊤}
use Rattle.git_defs.specs.Vectors.{Vector}
use Rattle.git_defs.specs.Cones.{InCone}
use Rattle.git_listing.specs.Listings.{Side, boundary, inner, Facet, Chamber, Listing}

-- nothing lies behind the facet, or a chamber that shares the whole wall
abbrev pub IsSharedWhole : Side → Type 0
IsSharedWhole boundary = ⊤
IsSharedWhole (inner number matched) = IsTrue matched

-- each inner facet of each chamber of the listing is matched
abbrev pub AllInnerAreMatched : Listing → Type 0
AllInnerAreMatched l = (c : Chamber) (f : Facet) → Contains l.chambers c → Contains c.facets f → IsSharedWhole f.side

-- a chamber of the listing holds w
pub record IsInListed (k : ℕ) (l : Listing) (w : Vector) : Type 0 where
  pub chamber : Chamber
  pub listed : Contains l.chambers chamber
  pub holds : InCone k chamber.rays w
