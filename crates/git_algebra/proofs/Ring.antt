-- Polynomials are a commutative ring.
use Rattle.std.proofs.Common.{sym, ℕ, ◌+◌, ◌*◌, ◌≡◌, refl, [], ◌∷◌, ◌++◌, ◌∙◌, ap, arith, append_assoc}
use Rattle.git_algebra.specs.Exponents.{Exponents, one}
use Rattle.git_algebra.specs.Sums.{Sum, value, shift, product, unit, Mod, Alike}
use Rattle.git_algebra.specs.Polynomials.{Polynomial, normal}
use Rattle.git_algebra.specs.Operations.{zero_polynomial, one_polynomial, term_of, plus, minus, scaled, times_term, multiplied}
use Rattle.git_algebra.proofs.Monomials.{one-times}
use Rattle.git_algebra.proofs.Values.{value-append, value-shift}
use Rattle.git_algebra.proofs.Congruence.{mod_is, mod_trans, alike_refl, alike_sym, alike_trans, alike-append, alike-product_left, alike-product_right, alike_comm, alike_assoc, alike_distrib_right, alike_swap, alike_unit}
use Rattle.git_algebra.proofs.Normal.{same_normal, normal_alike, normal_of}

alike_append_assoc : (p q r : Sum) → Alike ((p ++ q) ++ r) (p ++ (q ++ r))
alike_append_assoc p q r = record { values = λ f. mod_is (ap (value f) (append_assoc p q r)) }

pub plus_comm : (p q : Polynomial) → plus p q ≡ plus q p
unfolding plus
plus_comm p q = same_normal (alike_swap p.terms q.terms)

pub plus_assoc : (p q r : Polynomial) → plus (plus p q) r ≡ plus p (plus q r)
unfolding plus
plus_assoc p q r = same_normal
    (alike_trans (alike-append (normal_alike (p.terms ++ q.terms)) (alike_refl r.terms))
    (alike_trans (alike_append_assoc p.terms q.terms r.terms)
    (alike-append (alike_refl p.terms) (alike_sym (normal_alike (q.terms ++ r.terms))))))

pub zero-plus : (p : Polynomial) → plus zero_polynomial p ≡ p
unfolding plus zero_polynomial normal
zero-plus p = normal_of p

-- a sum times 1 and a number
pub value-shift_one : (f : Exponents → ℕ) (c : ℕ) (p : Sum) → value f (shift one c p) ≡ c * value f p
value-shift_one f c p = value-shift f one c p ∙ (λ i. c * value (λ a. f (one-times a i)) p)

-- what is taken away is put back
restored : (p q : Sum) → Alike ((p ++ shift one 32002 q) ++ q) p
restored p q = record {
  values = λ f.
      mod_trans (mod_is (omega (arith, value-append f (p ++ shift one 32002 q) q, value-append f p (shift one 32002 q), value-shift_one f 32002 q)))
      (whole (value f p) (value f q));
}
  where
    whole : (x y : ℕ) → Mod (x + 32002 * y + y) x
    whole x y = record { same = let e : x + 32002 * y + y ≡ x + y * 32003 = omega arith in omega (arith, e) }

pub minus-plus : (p q : Polynomial) → plus (minus p q) q ≡ p
unfolding plus minus
minus-plus p q =
    same_normal (alike_trans (alike-append (normal_alike (p.terms ++ shift one 32002 q.terms)) (alike_refl q.terms)) (restored p.terms q.terms))
    ∙ normal_of p

pub minus-zero : (p : Polynomial) → minus p zero_polynomial ≡ p
minus-zero p = sym (zero-plus (minus p zero_polynomial)) ∙ plus_comm zero_polynomial (minus p zero_polynomial) ∙ minus-plus p zero_polynomial

pub multiplied_comm : (p q : Polynomial) → multiplied p q ≡ multiplied q p
unfolding multiplied
multiplied_comm p q = same_normal (alike_comm p.terms q.terms)

pub multiplied_assoc : (p q r : Polynomial) → multiplied (multiplied p q) r ≡ multiplied p (multiplied q r)
unfolding multiplied
multiplied_assoc p q r = same_normal
    (alike_trans (alike-product_left r.terms (normal_alike (product p.terms q.terms)))
    (alike_trans (alike_assoc p.terms q.terms r.terms)
    (alike-product_right p.terms (alike_sym (normal_alike (product q.terms r.terms))))))

pub one-multiplied : (p : Polynomial) → multiplied one_polynomial p ≡ p
unfolding multiplied one_polynomial
one-multiplied p = same_normal (alike_trans (alike-product_left p.terms (normal_alike unit)) (alike_unit p.terms)) ∙ normal_of p

pub multiplied-plus : (p q r : Polynomial) → multiplied p (plus q r) ≡ plus (multiplied p q) (multiplied p r)
unfolding multiplied plus
multiplied-plus p q r = same_normal
    (alike_trans (alike-product_right p.terms (normal_alike (q.terms ++ r.terms)))
    (alike_trans (alike_distrib_right p.terms q.terms r.terms)
    (alike-append (alike_sym (normal_alike (product p.terms q.terms))) (alike_sym (normal_alike (product p.terms r.terms))))))

-- a product by a sum of one term
alike_one_term : (m : Exponents) (c : ℕ) (p : Sum) → Alike (product ((m, c) ∷ []) p) (shift m c p)
alike_one_term m c p = record { values = λ f. mod_is (omega (arith, value-append f (shift m c p) [])) }

pub times_term_is : (m : Exponents) (c : ℕ) (p : Polynomial) → times_term m c p ≡ multiplied (term_of m c) p
unfolding times_term multiplied term_of
times_term_is m c p = same_normal (alike_sym (alike_trans (alike-product_left p.terms (normal_alike ((m, c) ∷ []))) (alike_one_term m c p.terms)))

pub scaled_is : (c : ℕ) (p : Polynomial) → scaled c p ≡ times_term one c p
unfolding scaled times_term
scaled_is c p = refl

-- what is a multiple of nothing, or by 0, is nothing
alike_none : (p : Sum) → ((f : Exponents → ℕ) → value f p ≡ 0) → normal p ≡ zero_polynomial
unfolding zero_polynomial
alike_none p none = same_normal (record { values = λ f. mod_is (none f) })

pub scaled-zero : (p : Polynomial) → scaled 0 p ≡ zero_polynomial
unfolding scaled
scaled-zero p = alike_none (shift one 0 p.terms) (λ f. value-shift_one f 0 p.terms ∙ omega arith)

pub times_term-zero : (m : Exponents) (p : Polynomial) → times_term m 0 p ≡ zero_polynomial
unfolding times_term
times_term-zero m p = alike_none (shift m 0 p.terms) (λ f. value-shift f m 0 p.terms ∙ omega arith)

pub times_term-of_zero : (m : Exponents) (c : ℕ) → times_term m c zero_polynomial ≡ zero_polynomial
unfolding times_term zero_polynomial normal
times_term-of_zero m c = refl

pub zero-multiplied : (p : Polynomial) → multiplied zero_polynomial p ≡ zero_polynomial
unfolding multiplied zero_polynomial normal
zero-multiplied p = refl

pub multiplied-zero : (p : Polynomial) → multiplied p zero_polynomial ≡ zero_polynomial
multiplied-zero p = multiplied_comm p zero_polynomial ∙ zero-multiplied p

pub term_of-zero : (m : Exponents) → term_of m 0 ≡ zero_polynomial
unfolding term_of
term_of-zero m = alike_none ((m, 0) ∷ []) (λ f. omega arith)
