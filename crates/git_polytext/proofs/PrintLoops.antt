-- The text of a polynomial, term by term and factor by factor, as a loop prints it.
use Rattle.std.proofs.Common.{◌≡◌, ◌≢◌, ℕ, zero, suc, ◌+◌, ◌<◌, ◌≤◌, ◌==◌, Bool, true, false, List, [], ◌∷◌, ◌++◌, length, drop, map, refl, sym, ap, ◌∙◌, append_assoc, append-nil, add-one, arith, Some}
use Rattle.std.specs.Prelude.{codes, if◌then◌else◌, slice_get}
use Rattle.std.proofs.lemmas.Bool.{ne_eqb}
use Rattle.std.proofs.Math.Seq.{drop-cons}
use Rattle.git_algebra.specs.Exponents.{Exponents, exponent}
use Rattle.git_algebra.specs.Sums.{Sum}
use Rattle.git_algebra.specs.Polynomials.{Polynomial}
use Rattle.git_polytext.specs.Printing.{joined, power_text, powers_from, sign_text, term_text, signed_terms, terms_text, polynomial_text}

-- ---- the factors of a term

from_here : (m : Exponents) (place : ℕ) → place < 17 → drop place m.list ≡ exponent m place ∷ drop (place + 1) m.list
from_here m place h = drop-cons m.list place 0 (omega (arith, h, m.long)) ∙ ap (λ (n : ℕ). exponent m place ∷ drop n m.list) (sym (add-one place))

one_passed : (place e : ℕ) (es : List ℕ) → e ≡ 0 → powers_from place (e ∷ es) ≡ powers_from (place + 1) es
one_passed place e es none = ap (λ (n : ℕ). powers_from place (n ∷ es)) none

one_taken : (place e : ℕ) (es : List ℕ) → 0 < e → powers_from place (e ∷ es) ≡ (place, e) ∷ powers_from (place + 1) es
one_taken place zero es some = absurd (omega arith)
one_taken place (suc e) es some = refl

begun_more : (begun : Bool) (t : List ℕ) (ts : List (List ℕ)) → joined begun (t ∷ ts) ≡ (if begun then codes "*" else []) ++ t ++ joined true ts
begun_more true t ts = refl
begun_more false t ts = refl

pub power_skipped : (before out all : List ℕ) (m : Exponents) (place : ℕ) (begun later : Bool) → place < 17 → exponent m place ≡ 0 → out ≡ before → later ≡ begun
    → before ++ joined begun (map power_text (powers_from place (drop place m.list))) ≡ all
    → out ++ joined later (map power_text (powers_from (place + 1) (drop (place + 1) m.list))) ≡ all
power_skipped before out all m place begun later h none is same so_far =
    let step = ap (powers_from place) (from_here m place h) ∙ one_passed place (exponent m place) (drop (place + 1) m.list) none in
    (λ i. is i ++ joined (same i) (map power_text (sym step i))) ∙ so_far

pub power_printed : (before out all : List ℕ) (m : Exponents) (place e : ℕ) (begun later : Bool) → place < 17 → e ≡ exponent m place → 0 < e
    → out ≡ before ++ (if begun then codes "*" else []) ++ power_text (place, e) → later ≡ true
    → before ++ joined begun (map power_text (powers_from place (drop place m.list))) ≡ all
    → out ++ joined later (map power_text (powers_from (place + 1) (drop (place + 1) m.list))) ≡ all
power_printed before out all m place e begun later h at some is same so_far =
    let star : List ℕ = if begun then codes "*" else [] in
    let rest = map power_text (powers_from (place + 1) (drop (place + 1) m.list)) in
    let here : drop place m.list ≡ e ∷ drop (place + 1) m.list = from_here m place h ∙ ap (λ (n : ℕ). n ∷ drop (place + 1) m.list) (sym at) in
    let step = ap (powers_from place) here ∙ one_taken place e (drop (place + 1) m.list) some in
    let whole : (before ++ star ++ power_text (place, e)) ++ joined true rest ≡ before ++ (star ++ power_text (place, e) ++ joined true rest) = simp append_assoc in
    (λ i. is i ++ joined (same i) rest) ∙ whole ∙ ap (λ l. before ++ l) (sym (begun_more begun (power_text (place, e)) rest))
    ∙ ap (λ ps. before ++ joined begun (map power_text ps)) (sym step) ∙ so_far

-- ---- the terms of a polynomial

term_at : (s : Sum) (i : ℕ) (t : Exponents × ℕ) → slice_get s i ≡ Some t → drop i s ≡ t ∷ drop (suc i) s
term_at [] zero t e = absurd (cc e)
term_at [] (suc i) t e = absurd (cc e)
term_at (u ∷ s) zero t e = let here : u ≡ t = cc e in ap (λ x. x ∷ s) here
term_at (u ∷ s) (suc i) t e = term_at s i t e

later_is : (i : ℕ) → (i + 1 == 0) ≡ false
later_is i = ne_eqb (i + 1) 0 (λ e. omega (arith, e))

pub term_printed : (before out all : List ℕ) (s : Sum) (i : ℕ) (t : Exponents × ℕ) → slice_get s i ≡ Some t → out ≡ before ++ sign_text (i == 0) t.1 ++ term_text t
    → before ++ signed_terms (i == 0) (drop i s) ≡ all → out ++ signed_terms (i + 1 == 0) (drop (i + 1) s) ≡ all
term_printed before out all s i t at is so_far =
    let whole : (before ++ sign_text (i == 0) t.1 ++ term_text t) ++ signed_terms false (drop (i + 1) s) ≡ before ++ (sign_text (i == 0) t.1 ++ term_text t ++ signed_terms false (drop (i + 1) s)) = simp append_assoc in
    (λ j. is j ++ signed_terms (later_is i j) (drop (i + 1) s)) ∙ whole ∙ ap (λ l. before ++ signed_terms (i == 0) l) (sym (term_at s i t at ∙ ap (λ (n : ℕ). t ∷ drop n s) (sym (add-one i)))) ∙ so_far

all_dropped : (s : Sum) (i : ℕ) → length s ≤ i → drop i s ≡ []
all_dropped [] zero h = refl
all_dropped [] (suc i) h = refl
all_dropped (t ∷ s) zero h = absurd (omega arith)
all_dropped (t ∷ s) (suc i) h = all_dropped s i (omega arith)

pub terms_printed : (out before : List ℕ) (p : Polynomial) (i : ℕ) → length p.terms ≤ i → out ++ signed_terms (i == 0) (drop i p.terms) ≡ before ++ terms_text p.terms → out ≡ before ++ polynomial_text p
unfolding polynomial_text
terms_printed out before p i h so_far = sym (append-nil out) ∙ ap (λ s. out ++ signed_terms (i == 0) s) (sym (all_dropped p.terms i h)) ∙ so_far

pub none_printed : (p : Polynomial) → length p.terms ≡ 0 → polynomial_text p ≡ codes "0"
unfolding polynomial_text
none_printed p none = from p.terms none
  where
    from : (s : Sum) → length s ≡ 0 → terms_text s ≡ codes "0"
    from [] e = refl
    from (t ∷ s) e = absurd (omega (arith, e))
