-- A form of the right sum is the right polynomial.
use Rattle.std.proofs.Common.{ℕ, ◌≡◌, refl, List, [], ◌++◌, length, sym, ap, ◌∙◌}
use Rattle.std.specs.Prelude.{filter}
use Rattle.git_algebra.specs.Exponents.{Exponents, one, in_face}
use Rattle.git_algebra.specs.Sums.{Sum, shift, product}
use Rattle.git_algebra.specs.Polynomials.{Polynomial, Proper, normal}
use Rattle.git_algebra.specs.Operations.{zero_polynomial, plus, minus, scaled, times_term, multiplied, restricted, first_term, lead_of, greatest_degree, total_degree}
use Rattle.git_algebra.proofs.Congruence.{alike_refl, alike_trans, alike-append}
use Rattle.git_algebra.proofs.Normal.{same_normal, terms_is}
use Rattle.git_poly.specs.declared.term.Term.{Term}
use Rattle.git_poly.specs.Terms.{sum_of, IsForm}
use Rattle.git_poly.proofs.TermLists.{length-sum_of}

pub form_is_plus : (r s t : Sum) (p q : Polynomial) → p.terms ≡ s → q.terms ≡ t → IsForm r (s ++ t) → normal r ≡ plus p q
unfolding plus
form_is_plus r s t p q a b h = same_normal h.whole ∙ (λ i. normal (sym a i ++ sym b i))

pub form_is_minus : (r s t w : Sum) (p q : Polynomial) → p.terms ≡ s → q.terms ≡ t → IsForm w (shift one 32002 t) → IsForm r (s ++ w) → normal r ≡ minus p q
unfolding minus
form_is_minus r s t w p q a b k h = same_normal (alike_trans h.whole (alike-append (alike_refl s) k.whole)) ∙ (λ i. normal (sym a i ++ shift one 32002 (sym b i)))

pub form_is_scaled : (r s : Sum) (c : ℕ) (p : Polynomial) → p.terms ≡ s → IsForm r (shift one c s) → normal r ≡ scaled c p
unfolding scaled
form_is_scaled r s c p a h = same_normal h.whole ∙ (λ i. normal (shift one c (sym a i)))

pub form_is_times_term : (r s : Sum) (m : Exponents) (c : ℕ) (p : Polynomial) → p.terms ≡ s → IsForm r (shift m c s) → normal r ≡ times_term m c p
unfolding times_term
form_is_times_term r s m c p a h = same_normal h.whole ∙ (λ i. normal (shift m c (sym a i)))

pub form_is_multiplied : (r s t : Sum) (p q : Polynomial) → p.terms ≡ s → q.terms ≡ t → IsForm r (product s t) → normal r ≡ multiplied p q
unfolding multiplied
form_is_multiplied r s t p q a b h = same_normal h.whole ∙ (λ i. normal (product (sym a i) (sym b i)))

pub form_is_restricted : (r s : Sum) (mask : ℕ) (p : Polynomial) → p.terms ≡ s → IsForm r (filter (λ t. in_face mask t.0) s) → normal r ≡ restricted mask p
unfolding restricted
form_is_restricted r s mask p a h = same_normal h.whole ∙ (λ i. normal (filter (λ t. in_face mask t.0) (sym a i)))

zero_terms : zero_polynomial.terms ≡ []
unfolding zero_polynomial normal
zero_terms = refl

-- a polynomial is 0 exactly where its list is empty
pub is_zero : (ts : List Term) (p : Polynomial) → Proper (sum_of ts) → normal (sum_of ts) ≡ p → ts ≡ [] → p ≡ zero_polynomial
unfolding zero_polynomial
is_zero ts p u e none = sym e ∙ ap (λ (us : List Term). normal (sum_of us)) none

pub is_not_zero : (ts : List Term) (p : Polynomial) → Proper (sum_of ts) → normal (sum_of ts) ≡ p → p ≡ zero_polynomial → length ts ≡ 0
is_not_zero ts p u e none = sym (length-sum_of ts) ∙ ap length (sym (terms_is (sum_of ts) p u e)) ∙ ap (λ (q : Polynomial). length q.terms) none ∙ ap length zero_terms

pub lead_is : (ts : List Term) (p : Polynomial) → Proper (sum_of ts) → normal (sum_of ts) ≡ p → lead_of p ≡ first_term (sum_of ts)
lead_is ts p u e = ap first_term (terms_is (sum_of ts) p u e)

pub total_degree-zero : (p : Polynomial) → p ≡ zero_polynomial → total_degree p ≡ 0
total_degree-zero p e = ap total_degree e ∙ none
  where
    none : total_degree zero_polynomial ≡ 0
    none = ap (λ (s : Sum). greatest_degree s) zero_terms
