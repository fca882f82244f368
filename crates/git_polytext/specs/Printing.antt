-- The text of a polynomial.
use Rattle.std.specs.Prelude.{ℕ, zero, suc, ◌+◌, ◌==◌, ◌&&◌, not, if◌then◌else◌, Bool, true, false, List, [], ◌∷◌, ◌++◌, map, codes, pos, int_lt, unsigned_abs}
use Rattle.std.specs.Fmt.{decimal}
use Rattle.git_field.specs.Field.{signed_of}
use Rattle.git_algebra.specs.Exponents.{Exponents, degree}
use Rattle.git_algebra.specs.Sums.{Sum}
use Rattle.git_algebra.specs.Polynomials.{Polynomial}

-- each after a star
abbrev pub after_stars : List (List ℕ) → List ℕ
after_stars [] = []
after_stars (t ∷ ts) = 42 ∷ t ++ after_stars ts

-- a star between each two
abbrev pub starred : List (List ℕ) → List ℕ
starred [] = []
starred (t ∷ ts) = t ++ after_stars ts

-- what goes on with a star, or begins
abbrev pub joined : Bool → List (List ℕ) → List ℕ
joined begun ts = if begun then after_stars ts else starred ts

-- the variables of a monomial whose exponents are given from a place on: each by its place and its exponent, which is not 0
abbrev pub powers_from : ℕ → List ℕ → List (ℕ × ℕ)
powers_from i [] = []
powers_from i (zero ∷ es) = powers_from (i + 1) es
powers_from i (suc e ∷ es) = (i, suc e) ∷ powers_from (i + 1) es

abbrev pub powers_of : Exponents → List (ℕ × ℕ)
powers_of m = powers_from 0 m.list

-- the variable at a place: `T(1)` to `T(16)`, and last `y`
abbrev pub variable_text : ℕ → List ℕ
variable_text i = if i == 16 then codes "y" else codes "T(" ++ decimal (i + 1) ++ codes ")"

-- a power of a variable; an exponent of 1 is left out
abbrev pub power_text : ℕ × ℕ → List ℕ
power_text v = variable_text v.0 ++ (if v.1 == 1 then [] else codes "^" ++ decimal v.1)

-- the size of a number and a monomial; a size of 1 is left out before variables
abbrev pub factor_texts : ℕ → Exponents → List (List ℕ)
factor_texts size m = if size == 1 && not (degree m == 0) then map power_text (powers_of m) else decimal size ∷ map power_text (powers_of m)

-- whether a number's representative from -16001 to 16001 is below 0
abbrev pub is_negative : ℕ → Bool
is_negative c = int_lt (signed_of c) (pos 0)

-- a term without its sign
abbrev pub term_text : Exponents × ℕ → List ℕ
term_text t = starred (factor_texts (unsigned_abs (signed_of t.1)) t.0)

-- the sign before a term: a minus, or a plus where the term is not the first
abbrev pub sign_text : Bool → ℕ → List ℕ
sign_text first c = if is_negative c then codes "-" else if first then [] else codes "+"

-- terms with their signs, from the first on or from a later one
abbrev pub signed_terms : Bool → Sum → List ℕ
signed_terms first [] = []
signed_terms first (t ∷ ts) = sign_text first t.1 ++ term_text t ++ signed_terms false ts

abbrev pub terms_text : Sum → List ℕ
terms_text [] = codes "0"
terms_text (t ∷ ts) = signed_terms true (t ∷ ts)

-- the terms in descending order; 0 for the polynomial 0
unfoldable pub polynomial_text : Polynomial → List ℕ
polynomial_text p = terms_text p.terms
