-- What holds of listings, as the laws of this crate say it.
use Rattle.std.specs.Prelude.{◌≡◌, ◌↔◌, ◌<◌, ℕ, List, Some, length, All, Contains}
use Rattle.git_defs.specs.Cones.{InCone, SameSet}
use Rattle.git_machine.specs.Signatures.{Signature}
use Rattle.git_machine.specs.Reach.{IsReach}
use Rattle.git_orbit.specs.Orbits.{Fan, IsFan}
use Rattle.git_orbit.specs.Signatures.{IsLegal, cone_in}
use Rattle.git_listing.specs.Listings.{Chamber, Listing}
use Rattle.git_chamber.specs.Chambers.{IsNext}
use Rattle.git_chamber.specs.Laws.{IsLeastFurther}
use Rattle.git_chamber.specs.Listings.{IsListing}
use Rattle.git_assemble.specs.Assembling.{AllGood}

-- a first signature has one listing
abbrev pub OneListing : Type 0
OneListing = (fan : Fan) (first : Signature) (r : ℕ) (a b : Listing) → IsListing fan first r a → IsListing fan first r b → a ≡ b

-- what has a listing is good
abbrev pub ListedIsGood : Type 0
ListedIsGood = (fan : Fan) (first : Signature) (r : ℕ) (l : Listing) → IsListing fan first r l → AllGood fan first

-- where all that is reached is good, and a list has exactly the reach of a legal signature, there is a listing
abbrev pub GoodIsListed : Type 0
GoodIsListed = (fan : Fan) (first : Signature) (r : ℕ) (sigs : List Signature) → IsFan fan.k fan.list → IsLegal fan first → IsReach (IsNext fan) first sigs → AllGood fan first
    → (l : Listing) × IsListing fan first r l

-- a listed chamber is the intersection of the cones that contain it
abbrev pub ListedChamberIsTheIntersection : Type 0
ListedChamberIsTheIntersection = (fan : Fan) (first : Signature) (r : ℕ) (l : Listing) (c : Chamber) → IsFan fan.k fan.list → IsLegal fan first → IsListing fan first r l
    → Contains l.chambers c → SameSet (InCone fan.k c.rays) (λ x. (i : ℕ) → i < length fan.list → All (cone_in fan i) c.rays → cone_in fan i x)

-- and is marked with the least cone that holds its weight and does not contain it
abbrev pub ListedMarkIsTheLeastFurtherCone : Type 0
ListedMarkIsTheLeastFurtherCone = (fan : Fan) (first : Signature) (r : ℕ) (l : Listing) (c : Chamber) (n : ℕ) → IsFan fan.k fan.list → IsLegal fan first → IsListing fan first r l
    → Contains l.chambers c → ((c.crossed ≡ Some n) ↔ IsLeastFurther fan c.rays c.weight n)
