-- What holds of weights and of where they lie.
use Rattle.std.specs.Prelude.{◌≡◌, ◌⊎◌, ◌↔◌, ℕ, ◌<◌, List, [], ◌∷◌, pos, ◌<ℤ◌, length, All}
use Rattle.git_defs.specs.Vectors.{Vector, AllOfLength, dot}
use Rattle.git_machine.specs.Signatures.{Signature}
use Rattle.git_stages.specs.declared.wide.WideAt.{WideAt}
use Rattle.git_orbit.specs.Orbits.{Fan, IsFan}
use Rattle.git_orbit.specs.Signatures.{IsLegal, IsSignature, cone_in, facets_at}
use Rattle.git_chamber.specs.Chambers.{IsChamber}
use Rattle.git_listing.specs.Listings.{Listing}
use Rattle.git_allcones.specs.Cones.{AreShortCones, cones_of}
use Rattle.git_locate.specs.Places.{Place, Placed}
use Rattle.git_locate.specs.Positions.{IsAround, IsPlace, IsWideAround}
use Rattle.git_locate.specs.Lists.{ArePlaced, IsFirstWideWeight}

-- ---- a weight
-- it has one place at most
abbrev pub PlaceIsOne : Type 0
PlaceIsOne = (fan : Fan) (l : Listing) (w : Vector) (p q : Place) → 0 < length fan.list → IsPlace fan l w p → IsPlace fan l w q → p ≡ q

-- it is wide in one way at most
abbrev pub WideIsOne : Type 0
WideIsOne = (fan : Fan) (w : Vector) (at other : WideAt) → IsWideAround fan w at → IsWideAround fan w other → at ≡ other

-- not both
abbrev pub PlaceIsNotWide : Type 0
PlaceIsNotWide = (fan : Fan) (l : Listing) (w : Vector) (p : Place) (at : WideAt) → IsPlace fan l w p → IsWideAround fan w at → ⊥

-- and one of the two
abbrev pub PlaceOrWide : Type 0
PlaceOrWide = (fan : Fan) (l : Listing) (w : Vector) → IsFan fan.k fan.list → 0 < length fan.list → AreShortCones fan.k (cones_of l) → length w ≡ fan.k
    → ((p : Place) × IsPlace fan l w p) ⊎ ((at : WideAt) × IsWideAround fan w at)

-- ---- several weights
-- they have one list of places at most
abbrev pub PlacesAreOne : Type 0
PlacesAreOne = (fan : Fan) (l : Listing) (ws : List Vector) (ps qs : List Placed) → 0 < length fan.list → ArePlaced fan l ws ps → ArePlaced fan l ws qs → ps ≡ qs

-- one is the first that is wide at most, in one way
abbrev pub FirstWideIsOne : Type 0
FirstWideIsOne = (fan : Fan) (ws : List Vector) (m n : ℕ) (at other : WideAt) → IsFirstWideWeight fan ws m at → IsFirstWideWeight fan ws n other → (m ≡ n) × (at ≡ other)

-- not both
abbrev pub PlacesAreNotWide : Type 0
PlacesAreNotWide = (fan : Fan) (l : Listing) (ws : List Vector) (ps : List Placed) (n : ℕ) (at : WideAt) → ArePlaced fan l ws ps → IsFirstWideWeight fan ws n at → ⊥

-- and one of the two
abbrev pub PlacesOrFirstWide : Type 0
PlacesOrFirstWide = (fan : Fan) (l : Listing) (ws : List Vector) → IsFan fan.k fan.list → 0 < length fan.list → AreShortCones fan.k (cones_of l) → AllOfLength fan.k ws
    → ((ps : List Placed) × ArePlaced fan l ws ps) ⊎ ((n : ℕ) × (at : WideAt) × IsFirstWideWeight fan ws n at)

-- ---- the inside
-- each of the normals is positive at w
abbrev pub IsInside : List Vector → Vector → Type 0
IsInside normals w = All (λ n. pos 0 <ℤ dot n w) normals

-- w is inside of the chamber of a legal signature, and each cone that holds w contains the chamber, exactly where the signature is that of w
-- and w is inside of each cone that holds it
abbrev pub InsideExactlyWhereOwn : Type 0
InsideExactlyWhereOwn = (fan : Fan) (sig : Signature) (rays facets : List Vector) (weight w : Vector) → IsFan fan.k fan.list → IsLegal fan sig
    → IsChamber fan sig rays facets weight → length w ≡ fan.k
    → ((IsInside facets w × ((i : ℕ) → IsAround fan w i → All (cone_in fan i) rays))
    ↔ (IsSignature fan (w ∷ []) sig × ((i : ℕ) → IsAround fan w i → IsInside (facets_at fan i) w)))
