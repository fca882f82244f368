-- When the chambers of a listing cover the weight cone.
use Rattle.std.specs.Prelude.{◌≡◌, ℕ, List, pos, Contains}
use Rattle.git_defs.specs.Vectors.{Vector, dot, vector_sum}
use Rattle.git_defs.specs.Cones.{InCone}
use Rattle.git_machine.specs.Signatures.{Signature, Has}
use Rattle.git_orbit.specs.Orbits.{Fan, IsFan}
use Rattle.git_orbit.specs.Signatures.{IsLegal, IsSignature, cone_in, facets_at}
use Rattle.git_cone_faces.specs.Faces.{on_wall}
use Rattle.git_listing.specs.Listings.{Listing}
use Rattle.git_chamber.specs.Chambers.{IsChamber, IsInner, first_germ}
use Rattle.git_chamber.specs.Views.{Graph, IsGraph}
use Rattle.git_chamber.specs.Listings.{IsListing}
use Rattle.git_allcones.specs.Cones.{AreShortCones, cones_of}
use Rattle.git_covering.specs.Coverings.{AllInnerAreMatched, IsInListed}

-- where each inner facet of a listing is matched, each vector of the cone of the columns lies in a listed chamber
abbrev pub MatchedListingCoversColumns : Type 0
MatchedListingCoversColumns = (g : Graph) (first : Signature) (r : ℕ) (l : Listing) → IsGraph g → IsSignature g.fan (first_germ g.fan.k g.columns) first
    → IsListing g.fan first r l → AllInnerAreMatched l → (w : Vector) → InCone g.fan.k g.columns w → IsInListed g.fan.k l w

-- the same of cone 0 of a fan, for any first signature that has it
abbrev pub MatchedListingCovers : Type 0
MatchedListingCovers = (fan : Fan) (first : Signature) (r : ℕ) (l : Listing) → IsFan fan.k fan.list → IsLegal fan first → Has first 0
    → IsListing fan first r l → AllInnerAreMatched l → (w : Vector) → cone_in fan 0 w → IsInListed fan.k l w

-- a facet of a chamber within cone 0 that doesn't lead to the inside of cone 0 has its middle on a facet of cone 0
abbrev pub BoundaryFacetIsOnTheWeightCone : Type 0
BoundaryFacetIsOnTheWeightCone = (fan : Fan) (sig : Signature) (rays facets : List Vector) (weight n : Vector) → IsFan fan.k fan.list → IsLegal fan sig → Has sig 0
    → IsChamber fan sig rays facets weight → Contains facets n → (IsInner fan rays n → ⊥)
    → (m : Vector) × Contains (facets_at fan 0) m × (dot m (vector_sum fan.k (on_wall n rays)) ≡ pos 0)

-- the chambers of a listing are full cones, with entries of at most 2^40 in absolute value
abbrev pub ListedChambersAreShortCones : Type 0
ListedChambersAreShortCones = (fan : Fan) (first : Signature) (r : ℕ) (l : Listing) → IsFan fan.k fan.list → IsLegal fan first → IsListing fan first r l → AreShortCones fan.k (cones_of l)
