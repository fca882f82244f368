-- The coefficients of sums, differences and multiples.
use Rattle.std.proofs.Common.{ℕ, ◌+◌, ◌-◌, ◌*◌, ◌%◌, ◌<◌, ◌≡◌, ◌++◌, ◌∙◌, ap, arith}
use Rattle.git_algebra.specs.Exponents.{Exponents, times, one, Divides}
use Rattle.git_algebra.specs.Sums.{shift, at as at_monomial, coefficient}
use Rattle.git_algebra.specs.Polynomials.{Polynomial}
use Rattle.git_algebra.specs.Operations.{plus, minus, scaled, times_term}
use Rattle.git_algebra.proofs.Values.{value-append}
use Rattle.git_algebra.proofs.Congruence.{mod_is}
use Rattle.git_algebra.proofs.Leads.{coefficient-shift, coefficient-shift_none}
use Rattle.git_algebra.proofs.Normal.{coefficient-normal, coefficient_below, same_polynomial}
use Rattle.git_algebra.proofs.Ring.{value-shift_one}

pub coefficient-plus : (p q : Polynomial) (m : Exponents) → coefficient (plus p q).terms m ≡ (coefficient p.terms m + coefficient q.terms m) % 32003
unfolding plus
coefficient-plus p q m = coefficient-normal (p.terms ++ q.terms) m ∙ ap (λ n. n % 32003) (value-append (at_monomial m) p.terms q.terms)

subtracted : (a b : ℕ) → b < 32003 → (a + 32002 * b) % 32003 ≡ (a + (32003 - b)) % 32003
subtracted a b h = let e : a + 32002 * b + 32003 ≡ (a + (32003 - b)) + b * 32003 = omega arith in omega (arith, e)

pub coefficient-minus : (p q : Polynomial) (m : Exponents) → coefficient (minus p q).terms m ≡ (coefficient p.terms m + (32003 - coefficient q.terms m)) % 32003
unfolding minus
coefficient-minus p q m =
    coefficient-normal (p.terms ++ shift one 32002 q.terms) m
    ∙ ap (λ n. n % 32003) (value-append (at_monomial m) p.terms (shift one 32002 q.terms) ∙ ap (λ n. coefficient p.terms m + n) (value-shift_one (at_monomial m) 32002 q.terms))
    ∙ subtracted (coefficient p.terms m) (coefficient q.terms m) (coefficient_below q.terms q.proper m)

pub coefficient-scaled : (c : ℕ) (p : Polynomial) (m : Exponents) → coefficient (scaled c p).terms m ≡ (c * coefficient p.terms m) % 32003
unfolding scaled
coefficient-scaled c p m = coefficient-normal (shift one c p.terms) m ∙ ap (λ n. n % 32003) (value-shift_one (at_monomial m) c p.terms)

pub coefficient-times_term : (m : Exponents) (c : ℕ) (p : Polynomial) (a : Exponents) → coefficient (times_term m c p).terms (times m a) ≡ (c * coefficient p.terms a) % 32003
unfolding times_term
coefficient-times_term m c p a = coefficient-normal (shift m c p.terms) (times m a) ∙ ap (λ n. n % 32003) (coefficient-shift m c p.terms a)

-- at a monomial that m does not divide
pub coefficient-times_term_none : (m : Exponents) (c : ℕ) (p : Polynomial) (a : Exponents) → (Divides m a → ⊥) → coefficient (times_term m c p).terms a ≡ 0
unfolding times_term
coefficient-times_term_none m c p a apart =
    coefficient-normal (shift m c p.terms) a
    ∙ ap (λ n. n % 32003) (coefficient-shift_none m c p.terms a (λ k e. apart (record { cofactor = k; product = e })))
    ∙ omega arith

-- two polynomials with one coefficient at each monomial are one
pub polynomial_from_coefficients : (p q : Polynomial) → ((m : Exponents) → coefficient p.terms m ≡ coefficient q.terms m) → p ≡ q
polynomial_from_coefficients p q same = same_polynomial p q (λ m. mod_is (same m))
