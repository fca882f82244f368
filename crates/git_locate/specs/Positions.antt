-- What is told of a weight.
use Rattle.std.specs.Prelude.{◌≡◌, ◌↔◌, ℕ, ◌+◌, ◌<◌, List, [], ◌∷◌, ◌++◌, pos, ◌≤ℤ◌, ◌<ℤ◌, length, get_or, All, AllPairs, Contains}
use Rattle.git_defs.specs.Vectors.{Vector, dot}
use Rattle.git_defs.specs.Cones.{AreRays, InCone}
use Rattle.git_machine.specs.Signatures.{Signature}
use Rattle.git_stages.specs.Ranks.{IsRank}
use Rattle.git_stages.specs.declared.wide.WideAt.{WideAt}
use Rattle.git_orbit.specs.Orbits.{Fan}
use Rattle.git_orbit.specs.Signatures.{IsSignature, cone_in, facets_at}
use Rattle.git_chamber.specs.Chambers.{IsWideSignature}
use Rattle.git_chamber.specs.Listings.{no_chamber}
use Rattle.git_listing.specs.Listings.{Chamber, Listing}
use Rattle.git_locate.specs.Places.{Place, Position, inside, outside}

-- the numbers of which P holds, ascending
pub record AreNumbersOf (P : ℕ → Type 0) (numbers : List ℕ) : Type 0 where
  pub ascending : AllPairs (λ (m n : ℕ). m < n) numbers
  pub each : (n : ℕ) → Contains numbers n ↔ P n

-- the first of the normals that is negative at w
pub record IsFirstBelow (normals : List Vector) (w n : Vector) : Type 0 where
  pub before : List Vector
  pub after : List Vector
  pub is : normals ≡ before ++ n ∷ after
  pub none : All (λ m. pos 0 ≤ℤ dot m w) before
  pub negative : dot n w <ℤ pos 0

-- the cone with this number holds w
pub record IsAround (fan : Fan) (w : Vector) (i : ℕ) : Type 0 where
  pub in_range : i < length fan.list
  pub holds : cone_in fan i w

-- x is in each cone that holds w
abbrev pub InAllAround : Fan → Vector → Vector → Type 0
InAllAround fan w x = (i : ℕ) → IsAround fan w i → cone_in fan i x

-- the listed chamber with this number, from 1, holds w
pub record IsListedAround (k : ℕ) (chambers : List Chamber) (w : Vector) (number : ℕ) : Type 0 where
  pub place : ℕ
  pub in_range : place < length chambers
  pub is : number ≡ place + 1
  pub holds : InCone k (get_or chambers place no_chamber).rays w

-- the weight cone holds w, and the sorted distinct facets of the cones that hold w are wide, first at this stage
pub record IsWideAround (fan : Fan) (w : Vector) (at : WideAt) : Type 0 where
  pub within : cone_in fan 0 w
  pub sig : Signature
  pub signature : IsSignature fan (w ∷ []) sig
  pub wide : IsWideSignature fan sig at

-- the facets of the cones that hold w are not wide
abbrev pub IsNarrowAround : Fan → Vector → Type 0
IsNarrowAround fan w = (at : WideAt) → IsWideAround fan w at → ⊥

-- the position of a weight that the weight cone holds
pub record IsPosition (fan : Fan) (l : Listing) (w : Vector) (p : Position) : Type 0 where
  pub within : cone_in fan 0 w
  pub narrow : IsNarrowAround fan w
  pub cones : AreNumbersOf (IsAround fan w) p.cones
  pub rays : AreRays fan.k (InAllAround fan w) p.rays
  pub dimension : IsRank fan.k p.rays p.dimension
  pub chambers : AreNumbersOf (IsListedAround fan.k l.chambers w) p.chambers

-- where w lies: outside of the weight cone, with the first facet that shows it, or at a position
abbrev pub IsPlace : Fan → Listing → Vector → Place → Type 0
IsPlace fan l w (outside n) = (cone_in fan 0 w → ⊥) × IsFirstBelow (facets_at fan 0) w n
IsPlace fan l w (inside p) = IsPosition fan l w p
