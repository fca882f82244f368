-- Degrees of monomials under a grading, whose columns are the degrees of the variables, and homogeneous polynomials.
use Rattle.std.specs.Prelude.{ℕ, ◌≡◌, ◌<◌, ◌≤◌, List, length, map, pos, Some, All, Contains}
use Rattle.std.proofs.Common.{get_or}
use Rattle.git_defs.specs.Vectors.{Vector, combination}
use Rattle.git_algebra.specs.Exponents.{Exponents, exponent}
use Rattle.git_algebra.specs.Order.{rank}
use Rattle.git_algebra.specs.Polynomials.{Polynomial}
use Rattle.git_algebra.specs.Operations.{lead_of}
use Rattle.git_poly.specs.declared.term.Term.{Term}
use Rattle.git_limits.specs.declared.TheConstants.{EXPONENT}

-- the degree of a monomial, a vector of k entries: the sum of the columns, each times the exponent of its variable
unfoldable pub degree_under : ℕ → List Vector → Exponents → Vector
degree_under k columns a = combination k (map pos a.list) columns

-- the two monomials are of one degree
abbrev pub AreOfOneDegree : ℕ → List Vector → Exponents → Exponents → Type 0
AreOfOneDegree k columns a b = degree_under k columns a ≡ degree_under k columns b

-- a monomial in the variables of the columns, with exponents of at most 64
pub record IsGradedBy (columns : List Vector) (a : Exponents) : Type 0 where
  pub small : (i : ℕ) → exponent a i ≤ EXPONENT
  pub none_past : (i : ℕ) → length columns ≤ i → exponent a i ≡ 0

-- the polynomial has a term with this monomial
pub record HasMonomial (p : Polynomial) (a : Exponents) : Type 0 where
  pub number : ℕ
  pub term : Contains p.terms (a, number)

-- each monomial of the polynomial is one in the variables of the columns, with exponents of at most 64
abbrev pub AreGradedBy : List Vector → Polynomial → Type 0
AreGradedBy columns p = (a : Exponents) → HasMonomial p a → IsGradedBy columns a

-- any two monomials of the polynomial are of one degree
abbrev pub IsHomogeneous : ℕ → List Vector → Polynomial → Type 0
IsHomogeneous k columns p = (a b : Exponents) → HasMonomial p a → HasMonomial p b → AreOfOneDegree k columns a b

-- first is the lead's monomial, and second is the greatest monomial of the polynomial that has another degree
pub record AreApart (k : ℕ) (columns : List Vector) (p : Polynomial) (first second : Exponents) : Type 0 where
  pub number : ℕ
  pub lead : lead_of p ≡ Some (first, number)
  pub has : HasMonomial p second
  pub apart : AreOfOneDegree k columns second first → ⊥
  pub greatest : (a : Exponents) → HasMonomial p a → rank second < rank a → AreOfOneDegree k columns a first

-- each term of a list has the degree of a monomial
abbrev pub HasOneDegree : ℕ → List Vector → Exponents → List Term → Type 0
HasOneDegree k columns a ts = All (λ t. AreOfOneDegree k columns t.mono a) ts

-- b is the first monomial of a list whose degree is not that of a
pub record IsFirstApart (k : ℕ) (columns : List Vector) (a : Exponents) (ts : List Term) (b : Exponents) : Type 0 where
  pub place : ℕ
  pub within : place < length ts
  pub is : (d : Term) → (get_or ts place d).mono ≡ b
  pub apart : AreOfOneDegree k columns b a → ⊥
  pub before : (j : ℕ) (d : Term) → j < place → AreOfOneDegree k columns (get_or ts j d).mono a
