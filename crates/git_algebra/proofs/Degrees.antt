-- Total degrees of sums, products by terms and terms.
use Rattle.std.proofs.Common.{ℕ, ◌+◌, ◌≤◌, ◌≡◌, refl, [], ◌∷◌, ◌++◌, sym, ap, subst, arith}
use Rattle.git_algebra.specs.Exponents.{Exponents, one, degree}
use Rattle.git_algebra.specs.Sums.{Sum, shift, unit}
use Rattle.git_algebra.specs.Polynomials.{Polynomial, normal}
use Rattle.git_algebra.specs.Operations.{zero_polynomial, one_polynomial, term_of, minus, scaled, times_term, greatest_degree, total_degree}
use Rattle.git_algebra.proofs.Monomials.{degree-times, degree-one, one-times}
use Rattle.git_algebra.proofs.Ring.{scaled_is}
use Rattle.git_algebra.proofs.Every.{Every, every-append, every-normal}

pub every_degree : (n : ℕ) (p : Sum) → greatest_degree p ≤ n → Every (λ a. degree a ≤ n) p
every_degree n [] h = tt
every_degree n (t ∷ p) h = (omega (arith, h), every_degree n p (omega (arith, h)))

pub degree_every : (n : ℕ) (p : Sum) → Every (λ a. degree a ≤ n) p → greatest_degree p ≤ n
degree_every n [] u = omega arith
degree_every n (t ∷ p) u = let rest : greatest_degree p ≤ n = degree_every n p u.1 in omega (arith, u.0)

every_shift : (n d : ℕ) (m : Exponents) (c : ℕ) (p : Sum) → Every (λ a. degree a ≤ d) p → degree m + d ≤ n → Every (λ a. degree a ≤ n) (shift m c p)
every_shift n d m c [] u h = tt
every_shift n d m c (t ∷ p) u h = (omega (arith, degree-times m t.0, u.0), every_shift n d m c p u.1 h)

pub degree_minus : (n : ℕ) (p q : Polynomial) → total_degree p ≤ n → total_degree q ≤ n → total_degree (minus p q) ≤ n
unfolding minus
degree_minus n p q a b = degree_every n (minus p q).terms (every-normal (λ a. degree a ≤ n) (p.terms ++ shift one 32002 q.terms)
    (every-append (λ a. degree a ≤ n) p.terms (shift one 32002 q.terms) (every_degree n p.terms a) (kept 32002 q.terms (every_degree n q.terms b))))
  where
    kept : (c : ℕ) (s : Sum) → Every (λ a. degree a ≤ n) s → Every (λ a. degree a ≤ n) (shift one c s)
    kept c [] u = tt
    kept c (t ∷ s) u = (subst (λ (x : Exponents). degree x ≤ n) (sym (one-times t.0)) u.0, kept c s u.1)

pub degree_times : (n : ℕ) (m : Exponents) (c : ℕ) (p : Polynomial) → degree m + total_degree p ≤ n → total_degree (times_term m c p) ≤ n
unfolding times_term
degree_times n m c p h = degree_every n (times_term m c p).terms (every-normal (λ a. degree a ≤ n) (shift m c p.terms) (every_shift n (total_degree p) m c p.terms (every_degree (total_degree p) p.terms (omega arith)) h))

pub zero_degree : total_degree zero_polynomial ≡ 0
unfolding zero_polynomial normal
zero_degree = refl

pub one_degree : (n : ℕ) → total_degree one_polynomial ≤ n
unfolding one_polynomial unit
one_degree n = degree_every n one_polynomial.terms (every-normal (λ a. degree a ≤ n) unit (omega (arith, degree-one), tt))

pub term_degree : (m : Exponents) (c n : ℕ) → degree m ≤ n → total_degree (term_of m c) ≤ n
unfolding term_of
term_degree m c n h = degree_every n (term_of m c).terms (every-normal (λ a. degree a ≤ n) ((m, c) ∷ []) (h, tt))

pub degree_scaled : (n c : ℕ) (p : Polynomial) → total_degree p ≤ n → total_degree (scaled c p) ≤ n
degree_scaled n c p h = omega (arith, ap total_degree (scaled_is c p), degree_times n one c p (omega (arith, degree-one)))
