-- A-faces, and what shows that a face is one or none.
use Rattle.std.specs.Prelude.{ℕ, ◌≡◌, ◌≢◌, if◌then◌else◌, List, map, Some, All, IsTrue}
use Rattle.git_algebra.specs.Exponents.{Exponents, exponents_by, one, power, in_face}
use Rattle.git_algebra.specs.Polynomials.{Polynomial}
use Rattle.git_algebra.specs.Operations.{lead_of, restricted, IsInFace}
use Rattle.git_ideals.specs.Ideals.{combination, monomial, clearing}
use Rattle.git_ideals.specs.Division.{DividesToZero, AreNonzero, PairsDivide}
use Rattle.git_bits.specs.Bits.{has_bit}

-- the product of the face's variables
unfoldable pub face_monomial : ℕ → Exponents
face_monomial mask = exponents_by (λ i. if has_bit mask i then 1 else 0)

-- no monomial in the face's variables is a sum of products of polynomials in them with the restricted generators
abbrev pub IsAFace : List Polynomial → ℕ → Type 0
IsAFace generators mask =
    (m : Exponents) → IsTrue (in_face mask m) → (cofactors : List Polynomial) → All (IsInFace mask) cofactors
    → combination cofactors (map (restricted mask) generators) ≡ monomial m → ⊥

-- a power of the product of the face's variables, as a sum of products with the restricted generators
pub record IsMonomialProof (generators : List Polynomial) (mask exponent : ℕ) (cofactors : List Polynomial) : Type 0 where
  pub variables : All (IsInFace mask) cofactors
  pub sum : combination cofactors (map (restricted mask) generators) ≡ monomial (power (face_monomial mask) exponent)

-- members with leads other than 1, by which the restricted generators, the clearing polynomial and the S-polynomials of pairs divide to rest 0
pub record IsFreeProof (generators : List Polynomial) (mask : ℕ) (members : List Polynomial) : Type 0 where
  pub nonzero : AreNonzero members
  pub no_unit : All (λ g. (c : ℕ) → lead_of g ≢ Some (one, c)) members
  pub generators_divide : All (λ f. DividesToZero members (restricted mask f)) generators
  pub clearing_divides : DividesToZero members (clearing (face_monomial mask))
  pub pairs_divide : PairsDivide members
