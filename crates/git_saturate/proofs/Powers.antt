-- From cofactors of 1 to a power of the face's monomial: the extra variable stands for the inverse of that monomial.
use Rattle.std.proofs.Common.{ℕ, zero, suc, ◌+◌, ◌*◌, ◌<◌, ◌≤◌, ◌≡◌, ◌⊎◌, refl, List, [], ◌∷◌, ◌++◌, map, sym, ◌∙◌, ap, subst, arith, inl, inr, zero-add}
use Rattle.std.proofs.lemmas.Bool.{cases_lt}
use Rattle.git_algebra.specs.Exponents.{Exponents, times, one, power}
use Rattle.git_algebra.specs.Order.{rank}
use Rattle.git_algebra.specs.Sums.{Sum, value, product, unit, at as at_monomial, coefficient, Mod, Alike}
use Rattle.git_algebra.specs.Polynomials.{Polynomial, Proper, RanksBelow}
use Rattle.git_algebra.proofs.Monomials.{times_comm, times-one}
use Rattle.git_algebra.proofs.Ranks.{rank_injective}
use Rattle.git_algebra.proofs.Values.{value-append, value-product}
use Rattle.git_algebra.proofs.Congruence.{mod_refl, mod_is, mod_sym, mod_trans, mod_add, alike_refl, alike_trans, alike-append, alike-product_left}
use Rattle.git_algebra.proofs.Leads.{at_other, at-times}
use Rattle.git_algebra.proofs.Normal.{normal_alike, at_head}
use Rattle.git_algebra.proofs.Every.{Every}
use Rattle.git_ideals.specs.Ideals.{y}
use Rattle.git_ideals.proofs.SumIdeals.{sum_combination}
use Rattle.git_ideals.proofs.Conversions.{terms_of}
use Rattle.git_ideals.specs.Extra.{extra, traded, mapped}
use Rattle.git_ideals.proofs.ExtraExponents.{extra-y, extra-one, extra-times}
use Rattle.git_ideals.proofs.ExtraVariable.{single, clear, NoExtra, AllNoExtra, Fewer, traded_clear_none, traded_combination, traded-one}
use Rattle.git_saturate.specs.Traded.{traded_polynomial, greatest_extra, greatest_extra_of}

abbrev pub EveryAll : (Exponents → Type 0) → List Polynomial → Type 0
EveryAll P [] = Unit {0}
EveryAll P (p ∷ ps) = Every P p.terms × EveryAll P ps

pub every_weaker : (P R : Exponents → Type 0) → ((a : Exponents) → P a → R a) → (p : Sum) → Every P p → Every R p
every_weaker P R f [] u = tt
every_weaker P R f (t ∷ p) u = (f t.0 u.0, every_weaker P R f p u.1)

-- The cofactor of 1 - y e stays below the greatest exponent of y in the others
none_there : (f : Exponents → ℕ) (P : Exponents → Type 0) → ((a : Exponents) → P a → f a ≡ 0) → (p : Sum) → Every P p → value f p ≡ 0
none_there f P z [] u = refl
none_there f P z (t ∷ p) u = (λ i. t.1 * z t.0 u.0 i + none_there f P z p u.1 i) ∙ omega arith

none_in_combination : (f : Exponents → ℕ) (n : ℕ) → ((a : Exponents) → extra a ≤ n → f a ≡ 0) → (hs fs : List Polynomial) → EveryAll (λ a. extra a ≤ n) hs → EveryAll (λ a. extra a ≡ 0) fs → value f (sum_combination (terms_of hs) (terms_of fs)) ≡ 0
none_in_combination f n z [] fs u v = refl
none_in_combination f n z (h ∷ hs) [] u v = refl
none_in_combination f n z (h ∷ hs) (g ∷ fs) u v =
    let here : value f (product h.terms g.terms) ≡ 0 =
    value-product f h.terms g.terms
    ∙ none_there (λ a. value (λ b. f (times a b)) g.terms) (λ a. extra a ≤ n) (λ a le. none_there (λ b. f (times a b)) (λ b. extra b ≡ 0) (λ b none. z (times a b) (omega (arith, extra-times a b))) g.terms v.0) h.terms u.0 in
    omega (arith, value-append f (product h.terms g.terms) (sum_combination (terms_of hs) (terms_of fs)), none_in_combination f n z hs fs u.1 v.1, here)

top_none : (e : Exponents) (n k : ℕ) (h : Polynomial) (hs fs : List Polynomial) → extra e ≡ 0 → n ≤ k → Every (λ a. extra a ≤ k) h.terms → EveryAll (λ a. extra a ≤ n) hs → EveryAll (λ a. extra a ≡ 0) fs
    → Alike (product h.terms (clear e) ++ sum_combination (terms_of hs) (terms_of fs)) unit → (m : Exponents) → extra m ≡ k → Mod (coefficient h.terms m) 0
unfolding unit
top_none e n k h hs fs none le few u v sums m top =
    let first : value (at_monomial (times m (times y e))) (product h.terms (clear e)) ≡ 32002 * coefficient h.terms m = value-product (at_monomial (times m (times y e))) h.terms (clear e) ∙ each h.terms few in
    let second : value (at_monomial (times m (times y e))) (sum_combination (terms_of hs) (terms_of fs)) ≡ 0 = none_in_combination (at_monomial (times m (times y e))) n (λ a l. zero_at a (omega arith)) hs fs u v in
    let right : value (at_monomial (times m (times y e))) ((one, 1) ∷ []) ≡ 0 = (λ i. 1 * zero_at one (omega (arith, extra-one)) i + 0) ∙ omega arith in
    let whole : Mod (32002 * coefficient h.terms m) 0 =
    mod_trans (mod_is (omega (arith, value-append (at_monomial (times m (times y e))) (product h.terms (clear e)) (sum_combination (terms_of hs) (terms_of fs)), first, second))) (mod_trans (sums.values (at_monomial (times m (times y e)))) (mod_is right)) in
    numbers (coefficient h.terms m) whole
  where
    numbers : (x : ℕ) → Mod (32002 * x) 0 → Mod x 0
    numbers x z =
        let s : Mod (x + 32002 * x) (x + 0) = mod_add (mod_refl x) z in
        let w : x + 32002 * x ≡ x * 32003 = omega arith in
        record { same = omega (arith, s.same, w) }

    zero_at : (a : Exponents) → extra a ≤ k → at_monomial (times m (times y e)) a ≡ 0
    zero_at a l = at_other (times m (times y e)) a (λ same. absurd (omega (arith, ap extra (rank_injective (times m (times y e)) a same), extra-times m (times y e), extra-times y e, extra-y)))

    both : (a : Exponents) → at_monomial (times m (times y e)) (times a (times y e)) ≡ at_monomial m a
    both a = (λ i. at_monomial (times_comm m (times y e) i) (times_comm a (times y e) i)) ∙ at-times (times y e) m a

    each : (p : Sum) → Every (λ a. extra a ≤ k) p → value (λ a. 1 * at_monomial (times m (times y e)) (times a one) + (32002 * at_monomial (times m (times y e)) (times a (times y e)) + 0)) p ≡ 32002 * value (at_monomial m) p
    each [] w = refl
    each (t ∷ p) w =
        (λ i. t.1 * (1 * (ap (at_monomial (times m (times y e))) (times-one t.0) ∙ zero_at t.0 w.0) i + (32002 * both t.0 i + 0)) + each p w.1 i)
        ∙ (let q : (c x v : ℕ) → c * (1 * 0 + (32002 * x + 0)) + 32002 * v ≡ 32002 * (c * x + v) = λ c x v. omega arith in q t.1 (at_monomial m t.0) (value (at_monomial m) p))

abbrev In : Sum → Exponents × ℕ → Type 0
In [] u = ⊥
In (t ∷ p) u = (t ≡ u) ⊎ In p u

ranks_in : (n : ℕ) (p : Sum) (u : Exponents × ℕ) → RanksBelow n p → In p u → rank u.0 < n
ranks_in n [] u r i = absurd i
ranks_in n (t ∷ p) u r (inl e) = omega (arith, r.0, ap (λ (v : Exponents × ℕ). rank v.0) e)
ranks_in n (t ∷ p) u r (inr i) = ranks_in n p u r.1 i

number_in : (p : Sum) → Proper p → (u : Exponents × ℕ) → In p u → Mod (coefficient p u.0) 0 → ⊥
number_in [] proper u i z = i
number_in (t ∷ p) proper u (inl e) z = omega (arith, at_head t p proper, (subst (λ (v : Exponents × ℕ). Mod (coefficient (t ∷ p) v.0) 0) (sym e) z).same, proper.0, proper.1)
number_in (t ∷ p) proper u (inr i) z =
    let here : coefficient (t ∷ p) u.0 ≡ coefficient p u.0 = (λ n. t.1 * at_other u.0 t.0 (λ e. absurd (omega (arith, ranks_in (rank t.0) p u proper.2 i, e))) n + coefficient p u.0) ∙ omega arith in
    number_in p proper.3 u i (mod_trans (mod_is (sym here)) z)

every_from : (P : Exponents → Type 0) (p : Sum) → ((u : Exponents × ℕ) → In p u → P u.0) → Every P p
every_from P [] f = tt
every_from P (t ∷ p) f = (f t (inl refl), every_from P p (λ u i. f u (inr i)))

every_in : (P : Exponents → Type 0) (p : Sum) (u : Exponents × ℕ) → Every P p → In p u → P u.0
every_in P [] u w i = absurd i
every_in P (t ∷ p) u w (inl e) = subst (λ (v : Exponents × ℕ). P v.0) e w.0
every_in P (t ∷ p) u w (inr i) = every_in P p u w.1 i

total_extra : Sum → ℕ
total_extra [] = 0
total_extra (t ∷ p) = extra t.0 + total_extra p

below_total : (n : ℕ) (p : Sum) → Every (λ a. extra a < n + suc (total_extra p)) p
unfolding total_extra
below_total n [] = tt
below_total n (t ∷ p) = (omega arith, every_weaker (λ a. extra a < n + suc (total_extra p)) (λ a. extra a < n + suc (extra t.0 + total_extra p)) (λ a h. omega arith) p (below_total n p))

-- the others' greatest exponent of y bounds that of the cofactor of 1 - y e from above
pub below_others : (e : Exponents) (n : ℕ) (h : Polynomial) (hs fs : List Polynomial) → extra e ≡ 0 → EveryAll (λ a. extra a ≤ n) hs → EveryAll (λ a. extra a ≡ 0) fs
    → Alike (product h.terms (clear e) ++ sum_combination (terms_of hs) (terms_of fs)) unit → Every (λ a. extra a < n) h.terms
below_others e n h hs fs none u v sums = down (suc (total_extra h.terms)) (below_total n h.terms)
  where
    down : (d : ℕ) → Every (λ a. extra a < n + d) h.terms → Every (λ a. extra a < n) h.terms
    down zero w = every_weaker (λ a. extra a < n + 0) (λ a. extra a < n) (λ a l. omega arith) h.terms w
    down (suc d) w = down d (every_from (λ a. extra a < n + d) h.terms (λ t i. elim (cases_lt (extra t.0) (n + d)) [
      | inl lt ↦ lt
      | inr ge ↦ absurd (number_in h.terms h.proper t i (top_none e n (n + d) h hs fs none (omega arith)
          (every_weaker (λ a. extra a < n + suc d) (λ a. extra a ≤ n + d) (λ a l. omega arith) h.terms w) u v sums t.0
          (let lt : extra t.0 < n + suc d = every_in (λ a. extra a < n + suc d) h.terms t w i in omega arith)))
    ]))

fewer_is : (n : ℕ) (p : Sum) → Every (λ a. extra a < n) p → Fewer n p
fewer_is n [] u = tt
fewer_is n (t ∷ p) u = (u.0, fewer_is n p u.1)

no_extra_is : (p : Sum) → Every (λ a. extra a ≡ 0) p → NoExtra p
no_extra_is [] u = tt
no_extra_is (t ∷ p) u = (u.0, no_extra_is p u.1)

all_no_extra_is : (fs : List Polynomial) → EveryAll (λ a. extra a ≡ 0) fs → AllNoExtra (terms_of fs)
all_no_extra_is [] u = tt
all_no_extra_is (f ∷ fs) u = (no_extra_is f.terms u.0, all_no_extra_is fs u.1)

traded_terms : (e : Exponents) (n : ℕ) (hs : List Polynomial) (fs : List Sum) → Alike (sum_combination (terms_of (map (traded_polynomial e n) hs)) fs) (sum_combination (map (mapped (traded e n)) (terms_of hs)) fs)
traded_terms e n [] fs = alike_refl []
traded_terms e n (h ∷ hs) [] = alike_refl []
traded_terms e n (h ∷ hs) (f ∷ fs) = alike-append (alike-product_left f (normal_alike (mapped (traded e n) h.terms))) (traded_terms e n hs fs)

pub power_sums : (e : Exponents) (n : ℕ) (h : Polynomial) (hs fs : List Polynomial) → extra e ≡ 0 → EveryAll (λ a. extra a ≤ n) hs → EveryAll (λ a. extra a ≡ 0) fs
    → Alike (product h.terms (clear e) ++ sum_combination (terms_of hs) (terms_of fs)) unit
    → Alike (sum_combination (terms_of (map (traded_polynomial e n) hs)) (terms_of fs)) (single (power e n))
unfolding unit
power_sums e n h hs fs none u v sums = alike_trans (traded_terms e n hs (terms_of fs)) (record {
  values = λ f.
      let few : Fewer n h.terms = fewer_is n h.terms (below_others e n h hs fs none u v sums) in
      mod_trans (mod_is (sym (traded_combination e n f (terms_of hs) (terms_of fs) (all_no_extra_is fs v))))
      (mod_trans (mod_is (sym (zero-add (value (λ a. f (traded e n a)) (sum_combination (terms_of hs) (terms_of fs))))))
      (mod_trans (mod_add (mod_sym (traded_clear_none e n none f h.terms few)) (mod_refl (value (λ a. f (traded e n a)) (sum_combination (terms_of hs) (terms_of fs)))))
      (mod_trans (mod_is (sym (value-append (λ a. f (traded e n a)) (product h.terms (clear e)) (sum_combination (terms_of hs) (terms_of fs)))))
      (mod_trans (sums.values (λ a. f (traded e n a))) (mod_is (λ i. 1 * f (traded-one e n i) + 0))))));
})

top_bounds : (n : ℕ) (p : Sum) → greatest_extra p ≤ n → Every (λ a. extra a ≤ n) p
top_bounds n [] h = tt
top_bounds n (t ∷ p) h = (omega arith, top_bounds n p (omega arith))

pub all_bounds : (n : ℕ) (ps : List Polynomial) → greatest_extra_of ps ≤ n → EveryAll (λ a. extra a ≤ n) ps
all_bounds n [] h = tt
all_bounds n (p ∷ ps) h = (top_bounds n p.terms (omega arith), all_bounds n ps (omega arith))
