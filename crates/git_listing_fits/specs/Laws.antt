-- What holds of the sizes of true listings.
use Rattle.std.specs.Prelude.{ℕ, ◌≤◌, List, length}
use Rattle.git_defs.specs.Vectors.{Vector}
use Rattle.git_defs.specs.Cones.{AreFacets}
use Rattle.git_machine.specs.Signatures.{Signature}
use Rattle.git_orbit.specs.Orbits.{Fan, IsFan}
use Rattle.git_orbit.specs.Signatures.{InChamber, IsLegal}
use Rattle.git_listing.specs.Limits.{FitsListing}
use Rattle.git_listing.specs.Listings.{Listing}
use Rattle.git_chamber.specs.Listings.{IsListing}
use Rattle.git_limits.specs.declared.TheConstants.{COLUMNS}
use Rattle.git_listing.specs.declared.limits.TheConstants.{LISTED}
use Rattle.git_chamber.specs.Chambers.{IsFullSet, IsNext}
use Rattle.git_machine.specs.Reach.{ReachExceeds}

-- a chamber has at most 2^16 facets
abbrev pub FacetsAreFew : Type 0
FacetsAreFew = (fan : Fan) (sig : Signature) (facets : List Vector) → IsFan fan.k fan.list → IsFullSet fan sig → AreFacets fan.k (InChamber fan sig) facets → length facets ≤ 65536

-- a true listing with at most 2^16 chambers, for one to sixteen columns, is within the limits of a listing's text
abbrev pub ListingsFit : Type 0
ListingsFit = (fan : Fan) (first : Signature) (r : ℕ) (l : Listing) → IsFan fan.k fan.list → IsLegal fan first → IsListing fan first r l → 1 ≤ r → r ≤ COLUMNS → length l.chambers ≤ LISTED → FitsListing l

-- a true listing has no more chambers than are reached
abbrev pub ChambersAreReached : Type 0
ChambersAreReached = (fan : Fan) (first : Signature) (r cap : ℕ) (l : Listing) → IsListing fan first r l → (ReachExceeds (IsNext fan) first cap → ⊥) → length l.chambers ≤ cap
