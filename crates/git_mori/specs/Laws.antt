-- Laws of moving chambers and their parts.
use Rattle.std.specs.Prelude.{◌≡◌, ◌↔◌, ℕ, List, All}
use Rattle.git_defs.specs.Vectors.{Vector, AllOfLength, vector_sum}
use Rattle.git_listing.specs.Listings.{Chamber}
use Rattle.git_mori.specs.Mov.{InMov, IsMoving, IsMovingNumber}
use Rattle.git_mori.specs.Parts.{IsPart}

-- a chamber is moving exactly where its weight and all its rays lie in the cone of the columns but one, whichever it is
abbrev pub MovingByRaysAndWeight : Type 0
MovingByRaysAndWeight = (k : ℕ) (columns : List Vector) (c : Chamber) → AllOfLength k columns → c.weight ≡ vector_sum k c.rays
    → IsMoving k columns c ↔ (InMov k columns c.weight × All (InMov k columns) c.rays)

-- a moving chamber has one part at most
abbrev pub PartIsOne : Type 0
PartIsOne = (k : ℕ) (columns : List Vector) (chambers : List Chamber) (number a b : ℕ) → IsPart (IsMovingNumber k columns chambers) chambers number a
    → IsPart (IsMovingNumber k columns chambers) chambers number b → a ≡ b
