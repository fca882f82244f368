-- The operations of polynomials, each as the form of a sum, and what is read of one.
use Rattle.std.specs.Prelude.{ℕ, max, ◌-◌, Option, Some, None, [], ◌∷◌, ◌++◌, filter, All, IsTrue}
use Rattle.git_field.specs.declared.TheConstants.{MODULUS}
use Rattle.git_algebra.specs.Exponents.{Exponents, one, degree, in_face}
use Rattle.git_algebra.specs.Sums.{Sum, shift, product, unit}
use Rattle.git_algebra.specs.Polynomials.{Polynomial, normal}

-- 0
unfoldable pub zero_polynomial : Polynomial
zero_polynomial = normal []

-- 1
unfoldable pub one_polynomial : Polynomial
one_polynomial = normal unit

-- a monomial times a number
unfoldable pub term_of : Exponents → ℕ → Polynomial
term_of m c = normal ((m, c) ∷ [])

unfoldable pub plus : Polynomial → Polynomial → Polynomial
plus p q = normal (p.terms ++ q.terms)

-- p less q, -1 being 32002
unfoldable pub minus : Polynomial → Polynomial → Polynomial
minus p q = normal (p.terms ++ shift one (MODULUS - 1) q.terms)

-- a number times p
unfoldable pub scaled : ℕ → Polynomial → Polynomial
scaled c p = normal (shift one c p.terms)

-- a term times p
unfoldable pub times_term : Exponents → ℕ → Polynomial → Polynomial
times_term m c p = normal (shift m c p.terms)

unfoldable pub multiplied : Polynomial → Polynomial → Polynomial
multiplied p q = normal (product p.terms q.terms)

-- p with every variable outside a face set to 0
unfoldable pub restricted : ℕ → Polynomial → Polynomial
restricted mask p = normal (filter (λ t. in_face mask t.0) p.terms)

-- each variable of each monomial of p is in a face
abbrev pub IsInFace : ℕ → Polynomial → Type 0
IsInFace mask p = All (λ t. IsTrue (in_face mask t.0)) p.terms

-- the first term
abbrev pub first_term : Sum → Option (Exponents × ℕ)
first_term [] = None
first_term (t ∷ p) = Some t

-- the term of the greatest monomial
abbrev pub lead_of : Polynomial → Option (Exponents × ℕ)
lead_of p = first_term p.terms

-- the greatest degree of a term
abbrev pub greatest_degree : Sum → ℕ
greatest_degree [] = 0
greatest_degree (t ∷ p) = max (degree t.0) (greatest_degree p)

-- the total degree, 0 for the polynomial 0
abbrev pub total_degree : Polynomial → ℕ
total_degree p = greatest_degree p.terms
