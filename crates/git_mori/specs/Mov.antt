-- The moving cone of some columns, and the chambers that lie in it.
use Rattle.std.specs.Prelude.{◌≡◌, ◌+◌, ◌<◌, ℕ, List, Some, length, slice_get, All}
use Rattle.git_defs.specs.Vectors.{Vector, HasRank}
use Rattle.git_defs.specs.Cones.{InCone}
use Rattle.git_minors.specs.Minors.{without}
use Rattle.git_stages.specs.Short.{IsShort}
use Rattle.git_listing.specs.Listings.{Chamber}

-- whichever column is left out, x is in the cone of the others
abbrev pub InMov : ℕ → List Vector → Vector → Type 0
InMov k columns x = (i : ℕ) → i < length columns → InCone k (without i columns) x

-- a chamber each of whose rays is in the moving cone
abbrev pub IsMoving : ℕ → List Vector → Chamber → Type 0
IsMoving k columns c = All (InMov k columns) c.rays

-- the chamber with this number, from 1
pub record HasNumber (chambers : List Chamber) (number : ℕ) (c : Chamber) : Type 0 where
  pub place : ℕ
  pub is : number ≡ place + 1
  pub at_place : slice_get chambers place ≡ Some c

-- the number of a moving chamber
abbrev pub IsMovingNumber : ℕ → List Vector → List Chamber → ℕ → Type 0
IsMovingNumber k columns chambers number = (c : Chamber) × HasNumber chambers number c × IsMoving k columns c

-- a chamber of full dimension, with small rays
pub record IsShortChamber (k : ℕ) (c : Chamber) : Type 0 where
  pub rays : All (IsShort k) c.rays
  pub rank : HasRank k c.rays
