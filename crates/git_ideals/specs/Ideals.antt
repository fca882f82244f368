-- Ideals: sums of products with generators.
use Rattle.std.specs.Prelude.{ℕ, ◌≡◌, List, [], ◌∷◌, All}
use Rattle.git_algebra.specs.Exponents.{Exponents, exponent, times, power, variable_power}
use Rattle.git_algebra.specs.Polynomials.{Polynomial}
use Rattle.git_algebra.specs.Operations.{zero_polynomial, one_polynomial, term_of, plus, minus, multiplied}

-- the sum of the products of cofactors with generators, place by place
abbrev pub combination : List Polynomial → List Polynomial → Polynomial
combination [] fs = zero_polynomial
combination (h ∷ hs) [] = zero_polynomial
combination (h ∷ hs) (f ∷ fs) = plus (multiplied h f) (combination hs fs)

-- some cofactors give p
pub record InIdeal (generators : List Polynomial) (p : Polynomial) : Type 0 where
  pub cofactors : List Polynomial
  pub sum : combination cofactors generators ≡ p

-- the monomial as a polynomial
abbrev pub monomial : Exponents → Polynomial
monomial m = term_of m 1

-- some power of the monomial e is in the ideal
pub record HasPower (generators : List Polynomial) (e : Exponents) : Type 0 where
  pub exponent : ℕ
  pub inside : InIdeal generators (monomial (power e exponent))

-- the extra variable y
abbrev pub y : Exponents
y = variable_power 16 1

-- the clearing polynomial 1 - y e
unfoldable pub clearing : Exponents → Polynomial
clearing e = minus one_polynomial (monomial (times y e))

-- no term of p has the extra variable
abbrev pub HasNoExtra : Polynomial → Type 0
HasNoExtra p = All (λ t. exponent t.0 16 ≡ 0) p.terms
