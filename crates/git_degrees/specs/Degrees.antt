-- Degrees of monomials under a grading with torsion, and homogeneous polynomials.
use Rattle.std.specs.Prelude.{◌≡◌, ℕ, ◌<◌, ℤ, List, [], ◌∷◌, Bool, ◌&&◌, if◌then◌else◌, Option, Some, None}
use Rattle.std.specs.Option.{option_map}
use Rattle.std.specs.Cmp.Lexicographic.{pointwise}
use Rattle.std.specs.Ordering.{int_eq}
use Rattle.git_defs.specs.Vectors.{Vector}
use Rattle.git_grading.specs.Gradings.{Degrees}
use Rattle.git_algebra.specs.Exponents.{Exponents}
use Rattle.git_algebra.specs.Order.{rank}
use Rattle.git_algebra.specs.Sums.{Sum}
use Rattle.git_algebra.specs.Polynomials.{Polynomial}
use Rattle.git_algebra.specs.Operations.{lead_of}
use Rattle.git_poly.specs.Degrees.{degree_under, HasMonomial}
use Rattle.git_degrees.specs.Torsions.{TorsionRow, classes}

-- the degree of a monomial: the sum of the columns, each times the exponent of its variable, together with its class in each torsion row
abbrev pub degree_in : Degrees → List TorsionRow → Exponents → Vector × List ℤ
degree_in d ts a = (degree_under d.k d.columns a, classes ts a)

-- the two monomials are of one degree
abbrev pub AreOfOneDegree : Degrees → List TorsionRow → Exponents → Exponents → Type 0
AreOfOneDegree d ts a b = degree_in d ts a ≡ degree_in d ts b

-- any two monomials of the polynomial are of one degree
abbrev pub IsHomogeneous : Degrees → List TorsionRow → Polynomial → Type 0
IsHomogeneous d ts p = (a b : Exponents) → HasMonomial p a → HasMonomial p b → AreOfOneDegree d ts a b

-- first is the lead's monomial, and second is the greatest monomial of the polynomial that has another degree
pub record AreApart (d : Degrees) (ts : List TorsionRow) (p : Polynomial) (first second : Exponents) : Type 0 where
  pub number : ℕ
  pub lead : lead_of p ≡ Some (first, number)
  pub has : HasMonomial p second
  pub apart : AreOfOneDegree d ts second first → ⊥
  pub greatest : (a : Exponents) → HasMonomial p a → rank second < rank a → AreOfOneDegree d ts a first

-- ---- as they are decided

abbrev pub same_degree : Degrees → List TorsionRow → Exponents → Exponents → Bool
same_degree d ts a b = pointwise int_eq (degree_under d.k d.columns a) (degree_under d.k d.columns b) && pointwise int_eq (classes ts a) (classes ts b)

-- the first monomial of another degree
abbrev pub first_apart : Degrees → List TorsionRow → Exponents → Sum → Option Exponents
first_apart d ts a [] = None
first_apart d ts a (t ∷ terms) = if same_degree d ts a t.0 then first_apart d ts a terms else Some t.0

-- of terms in descending order, the lead's monomial and the greatest of another degree
abbrev pub apart : Degrees → List TorsionRow → Sum → Option (Exponents × Exponents)
apart d ts [] = None
apart d ts (t ∷ terms) = option_map (λ m. (t.0, m)) (first_apart d ts t.0 terms)

-- the two monomials are those of the definition
abbrev pub AreApartAsRead : Degrees → List TorsionRow → Polynomial → Option (Exponents × Exponents) → Type 0
AreApartAsRead d ts p None = IsHomogeneous d ts p
AreApartAsRead d ts p (Some pair) = AreApart d ts p pair.0 pair.1
