-- Ideals of polynomials, and those of their sums of terms.
use Rattle.std.proofs.Common.{◌+◌, ◌≡◌, List, [], ◌∷◌, ◌++◌, ◌∙◌, ap, arith}
use Rattle.git_algebra.specs.Exponents.{Exponents, times, one}
use Rattle.git_algebra.specs.Sums.{Sum, value, shift, product, unit, Alike}
use Rattle.git_algebra.specs.Polynomials.{Polynomial, normal}
use Rattle.git_algebra.specs.Operations.{zero_polynomial, one_polynomial, term_of, plus, minus, multiplied}
use Rattle.git_algebra.proofs.Values.{value-append}
use Rattle.git_algebra.proofs.Congruence.{mod_refl, mod_is, mod_trans, mod_add, mod_mul, alike_refl, alike_sym, alike_trans, alike-append, alike-product_left}
use Rattle.git_algebra.proofs.Normal.{normal_alike, same_from_alike}
use Rattle.git_algebra.proofs.Ring.{value-shift_one}
use Rattle.git_ideals.specs.Ideals.{combination, InIdeal, monomial, clearing, y}
use Rattle.git_ideals.proofs.SumIdeals.{sum_combination, SumInIdeal}
use Rattle.git_ideals.proofs.ExtraVariable.{single, clear}

abbrev pub terms_of : List Polynomial → List Sum
terms_of [] = []
terms_of (p ∷ ps) = p.terms ∷ terms_of ps

pub zero_alike : Alike zero_polynomial.terms []
unfolding zero_polynomial
zero_alike = normal_alike []

pub plus_alike : (p q : Polynomial) → Alike (plus p q).terms (p.terms ++ q.terms)
unfolding plus
plus_alike p q = normal_alike (p.terms ++ q.terms)

multiplied_alike : (p q : Polynomial) → Alike (multiplied p q).terms (product p.terms q.terms)
unfolding multiplied
multiplied_alike p q = normal_alike (product p.terms q.terms)

-- a combination of polynomials, as one of sums
pub combination_alike : (hs fs : List Polynomial) → Alike (combination hs fs).terms (sum_combination (terms_of hs) (terms_of fs))
combination_alike [] fs = zero_alike
combination_alike (h ∷ hs) [] = zero_alike
combination_alike (h ∷ hs) (f ∷ fs) =
    alike_trans (plus_alike (multiplied h f) (combination hs fs)) (alike-append (multiplied_alike h f) (combination_alike hs fs))

pub to_sums : (fs : List Polynomial) (p : Polynomial) → InIdeal fs p → SumInIdeal (terms_of fs) p.terms
to_sums fs p h = record {
  cofactors = terms_of h.cofactors;
  sums = alike_trans (alike_sym (combination_alike h.cofactors fs)) (alike_is h.sum);
}
  where
    alike_is : {q r : Polynomial} → q ≡ r → Alike q.terms r.terms
    alike_is e = record { values = λ f. mod_is (ap (λ (s : Polynomial). value f s.terms) e) }

forms : List Sum → List Polynomial
forms [] = []
forms (h ∷ hs) = normal h ∷ forms hs

forms_alike : (hs : List Sum) (fs : List Sum) → Alike (sum_combination (terms_of (forms hs)) fs) (sum_combination hs fs)
unfolding forms
forms_alike [] fs = alike_refl []
forms_alike (h ∷ hs) [] = alike_refl []
forms_alike (h ∷ hs) (f ∷ fs) = alike-append (alike-product_left f (normal_alike h)) (forms_alike hs fs)

pub from_sums : (fs : List Polynomial) (p : Polynomial) → SumInIdeal (terms_of fs) p.terms → InIdeal fs p
from_sums fs p h = record {
  cofactors = forms h.cofactors;
  sum = same_from_alike _ p (alike_trans (combination_alike (forms h.cofactors) fs) (alike_trans (forms_alike h.cofactors (terms_of fs)) h.sums));
}

pub monomial_alike : (m : Exponents) → Alike (monomial m).terms (single m)
unfolding term_of
monomial_alike m = normal_alike (single m)

pub one_alike : Alike one_polynomial.terms unit
unfolding one_polynomial
one_alike = normal_alike unit

pub clearing_alike : (e : Exponents) → Alike (clearing e).terms (clear e)
unfolding clearing minus unit
clearing_alike e = record {
  values = λ f.
      mod_trans ((normal_alike (one_polynomial.terms ++ shift one 32002 (monomial (times y e)).terms)).values f)
      (mod_trans (mod_is (value-append f one_polynomial.terms (shift one 32002 (monomial (times y e)).terms) ∙ ap (λ k. value f one_polynomial.terms + k) (value-shift_one f 32002 (monomial (times y e)).terms)))
      (mod_trans (mod_add (one_alike.values f) (mod_mul (mod_refl 32002) ((monomial_alike (times y e)).values f)))
      (mod_is (omega arith))));
}
