-- Certificates of faces, and which are accepted.
use Rattle.std.specs.Prelude.{ℕ, ◌+◌, ◌≤◌, ◌^◌, ◌≡◌, ◌≢◌, List, length, map, Some, All}
use Rattle.git_algebra.specs.Exponents.{one, power}
use Rattle.git_algebra.specs.Polynomials.{Polynomial}
use Rattle.git_algebra.specs.Operations.{zero_polynomial, restricted, lead_of, total_degree, IsInFace}
use Rattle.git_ideals.specs.Ideals.{combination, monomial, clearing}
use Rattle.git_ideals.specs.Division.{DividesToZero, PairsDivide}
use Rattle.git_ideals.specs.Faces.{face_monomial}
use Rattle.git_facecert.specs.declared.certificate.TheConstants.{CERT_DEGREE, CERT_POWER}

-- a cofactor: a polynomial in the face's variables, of total degree at most 2^25
pub record IsCofactor (mask : ℕ) (h : Polynomial) : Type 0 where
  pub variables : IsInFace mask h
  pub small : total_degree h ≤ CERT_DEGREE

-- a member: a polynomial in the face's variables and y, the variable at place 16, other than 0, with a lead other than 1, of total degree at most 2^25
pub record IsMember (mask : ℕ) (g : Polynomial) : Type 0 where
  pub nonzero : g ≢ zero_polynomial
  pub variables : IsInFace (mask + 2 ^ 16) g
  pub no_unit : (c : ℕ) → lead_of g ≢ Some (one, c)
  pub small : total_degree g ≤ CERT_DEGREE

-- a power of the product of the face's variables, the exponent at most 2^20, as a sum of products of one cofactor for each generator with the restricted generators
pub record IsAcceptedMonomial (generators : List Polynomial) (mask exponent : ℕ) (cofactors : List Polynomial) : Type 0 where
  pub one_each : length cofactors ≡ length generators
  pub cofactors_are : All (IsCofactor mask) cofactors
  pub small : exponent ≤ CERT_POWER
  pub sum : combination cofactors (map (restricted mask) generators) ≡ monomial (power (face_monomial mask) exponent)

-- members by which the restricted generators, the clearing polynomial and the S-polynomials of pairs divide to rest 0
pub record IsAcceptedFree (generators : List Polynomial) (mask : ℕ) (members : List Polynomial) : Type 0 where
  pub members_are : All (IsMember mask) members
  pub generators_divide : All (λ f. DividesToZero members (restricted mask f)) generators
  pub clearing_divides : DividesToZero members (clearing (face_monomial mask))
  pub pairs_divide : PairsDivide members
