-- What is told of several weights.
use Rattle.std.specs.Prelude.{◌≡◌, ℕ, ◌+◌, List, ◌∷◌, ◌++◌, length, All}
use Rattle.std.specs.List.{AllZip}
use Rattle.git_defs.specs.Vectors.{Vector}
use Rattle.git_stages.specs.declared.wide.WideAt.{WideAt}
use Rattle.git_orbit.specs.Orbits.{Fan}
use Rattle.git_listing.specs.Listings.{Listing}
use Rattle.git_locate.specs.Places.{Placed}
use Rattle.git_locate.specs.Positions.{IsNarrowAround, IsPlace, IsWideAround}

-- the weight, and where it lies
abbrev pub IsPlaced : Fan → Listing → Vector → Placed → Type 0
IsPlaced fan l w p = (p.weight ≡ w) × IsPlace fan l w p.place

-- each weight, and where it lies
abbrev pub ArePlaced : Fan → Listing → List Vector → List Placed → Type 0
ArePlaced fan l = AllZip (IsPlaced fan l)

-- the weight with this number, from 1, is wide, and none before it
pub record IsFirstWideWeight (fan : Fan) (weights : List Vector) (number : ℕ) (at : WideAt) : Type 0 where
  pub before : List Vector
  pub weight : Vector
  pub after : List Vector
  pub are : weights ≡ before ++ weight ∷ after
  pub is : number ≡ length before + 1
  pub narrow : All (IsNarrowAround fan) before
  pub wide : IsWideAround fan weight at
