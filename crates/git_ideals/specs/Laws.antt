-- What the crate's laws say of division and of ideals.
use Rattle.std.specs.Prelude.{ℕ, ◌≡◌, ◌≢◌, ◌↔◌, List, ◌∷◌, Some, All, IsTrue}
use Rattle.git_algebra.specs.Exponents.{Exponents, exponent, power, degree, in_face, Divides}
use Rattle.git_algebra.specs.Polynomials.{Polynomial}
use Rattle.git_algebra.specs.Operations.{zero_polynomial, one_polynomial, plus, lead_of}
use Rattle.git_ideals.specs.Ideals.{combination, InIdeal, HasPower, clearing, HasNoExtra}
use Rattle.git_ideals.specs.Division.{IsRest, IsDivision, DividesToZero, IsSPolynomial, AreNonzero, PairsDivide, SomeLeadDivides}
use Rattle.git_ideals.specs.Faces.{face_monomial, IsAFace, IsMonomialProof, IsFreeProof}

-- quotients and a rest of f divided by the members
pub record HasDivision (basis : List Polynomial) (f : Polynomial) : Type 0 where
  pub quotients : List Polynomial
  pub rest : Polynomial
  pub is_division : IsDivision basis f quotients rest

-- each polynomial has a division; what was divided is the sum of the products of quotients with members, and the rest; the rest ends the division; and there is one answer
pub record DivisionLaws : Type 0 where
  pub some : (basis : List Polynomial) (f : Polynomial) → HasDivision basis f
  pub sum : (basis : List Polynomial) (f : Polynomial) (quotients : List Polynomial) (rest : Polynomial) → IsDivision basis f quotients rest → f ≡ plus (combination quotients basis) rest
  pub rest : (basis : List Polynomial) (f : Polynomial) (quotients : List Polynomial) (rest : Polynomial) → IsDivision basis f quotients rest → IsRest basis rest
  pub one_answer : (basis : List Polynomial) (f : Polynomial) (quotients others : List Polynomial) (rest other : Polynomial) → IsDivision basis f quotients rest → IsDivision basis f others other → (quotients ≡ others) × (rest ≡ other)
  pub to_zero : (basis : List Polynomial) (f : Polynomial) (quotients : List Polynomial) (rest : Polynomial) → IsDivision basis f quotients rest → DividesToZero basis f ↔ (rest ≡ zero_polynomial)

-- two polynomials other than 0 have one S-polynomial
pub record SPolynomialLaws : Type 0 where
  pub some : (f g : Polynomial) → f ≢ zero_polynomial → g ≢ zero_polynomial → (s : Polynomial) × IsSPolynomial f g s
  pub one_answer : (f g s t : Polynomial) → IsSPolynomial f g s → IsSPolynomial f g t → s ≡ t

-- where the S-polynomials of pairs divide to rest 0, the lead of each nonzero polynomial of the ideal is a multiple of a member's lead
abbrev pub BuchbergerCriterion : Type 0
BuchbergerCriterion =
    (members : List Polynomial) → AreNonzero members → PairsDivide members
    → (p : Polynomial) → InIdeal members p → (lead : Exponents × ℕ) → lead_of p ≡ Some lead → SomeLeadDivides members lead.0

-- there, the polynomials that divide to rest 0 are those of the ideal
abbrev pub IdealsDivideToZero : Type 0
IdealsDivideToZero = (members : List Polynomial) → AreNonzero members → PairsDivide members → (p : Polynomial) → InIdeal members p ↔ DividesToZero members p

-- a power of a monomial is in an ideal exactly where 1 is in it with the clearing polynomial; y is in neither the monomial nor the generators
abbrev pub ExtraVariable : Type 0
ExtraVariable =
    (generators : List Polynomial) (e : Exponents) → All HasNoExtra generators → exponent e 16 ≡ 0
    → HasPower generators e ↔ InIdeal (clearing e ∷ generators) one_polynomial

-- a monomial in the face's variables divides a power of their product
abbrev pub MonomialsDividePowers : Type 0
MonomialsDividePowers = (mask : ℕ) (m : Exponents) → IsTrue (in_face mask m) → Divides m (power (face_monomial mask) (degree m))

-- a power of the product of the face's variables, as a sum of products, shows that the face is no a-face
abbrev pub PowersShowNoAFace : Type 0
PowersShowNoAFace = (generators : List Polynomial) (mask exponent : ℕ) (cofactors : List Polynomial) → IsMonomialProof generators mask exponent cofactors → IsAFace generators mask → ⊥

-- members by which all divides to rest 0 show that the face is an a-face
abbrev pub MembersShowAFace : Type 0
MembersShowAFace = (generators : List Polynomial) (mask : ℕ) (members : List Polynomial) → IsFreeProof generators mask members → IsAFace generators mask
