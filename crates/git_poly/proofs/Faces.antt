-- The terms of a sum whose variables are all in a face.
use Rattle.std.proofs.Common.{zero, suc, ℕ, ◌+◌, ◌<◌, ◌≤◌, ◌≡◌, ◌≢◌, refl, List, [], ◌∷◌, ◌++◌, length, get_or, sym, ap, ◌∙◌, subst, arith, Bool, true, false, cond, inl, inr, append-nil}
use Rattle.std.specs.Prelude.{◌==◌, ◌||◌, ◌&&◌, filter, All}
use Rattle.std.specs.List.{list_all, range_with_len}
use Rattle.std.proofs.lemmas.Bool.{cases_eq, ne_eqb}
use Rattle.git_algebra.specs.Exponents.{Exponents, exponent, in_face}
use Rattle.git_algebra.specs.Order.{rank}
use Rattle.git_algebra.specs.Sums.{Sum}
use Rattle.git_algebra.specs.Polynomials.{Proper, RanksBelow}
use Rattle.git_algebra.proofs.Congruence.{alike_refl}
use Rattle.git_poly.specs.declared.term.Term.{Term}
use Rattle.git_poly.specs.Terms.{sum_of, IsForm}
use Rattle.git_bits.specs.Bits.{has_bit}

-- whether the exponent at a place is 0 or the place is in the face
abbrev pub place_in_face : ℕ → Exponents → ℕ → Bool
place_in_face mask a i = exponent a i == 0 || has_bit mask i

pub place_outside : (mask : ℕ) (a : Exponents) (i : ℕ) → exponent a i ≢ 0 → has_bit mask i ≡ false → place_in_face mask a i ≡ false
place_outside mask a i some none = λ j. ne_eqb (exponent a i) 0 some j || none j

all_true : (p : ℕ → Bool) (a n : ℕ) → ((k : ℕ) → a ≤ k → k < a + n → p k ≡ true) → list_all p (range_with_len a n) ≡ true
all_true p a zero each = refl
all_true p a (suc n) each = (λ i. each a (omega arith) (omega arith) i && list_all p (range_with_len (a + 1) n)) ∙ all_true p (a + 1) n (λ k low high. each k (omega arith) (omega arith))

one_false : (p : ℕ → Bool) (a n k : ℕ) → a ≤ k → k < a + n → p k ≡ false → list_all p (range_with_len a n) ≡ false
one_false p a zero k low high e = absurd (omega arith)
one_false p a (suc n) k low high e = elim (cases_eq k a) [
  | inl here ↦ (λ i. (ap p (sym here) ∙ e) i && list_all p (range_with_len (a + 1) n))
  | inr there ↦ (λ i. p a && one_false p (a + 1) n k (omega arith) (omega arith) e i) ∙ never (p a)
]
  where
    never : (b : Bool) → (b && false) ≡ false
    never true = refl
    never false = refl

pub is_in_face : (mask : ℕ) (a : Exponents) → ((k : ℕ) → k < 17 → place_in_face mask a k ≡ true) → in_face mask a ≡ true
unfolding in_face
is_in_face mask a each = all_true (place_in_face mask a) 0 17 (λ k low high. each k (omega arith))

pub is_outside : (mask : ℕ) (a : Exponents) (k : ℕ) → k < 17 → place_in_face mask a k ≡ false → in_face mask a ≡ false
unfolding in_face
is_outside mask a k h e = one_false (place_in_face mask a) 0 17 k (omega arith) (omega arith) e

ranks-filter : (n mask : ℕ) (p : Sum) → RanksBelow n p → RanksBelow n (filter (λ t. in_face mask t.0) p)
ranks-filter n mask [] u = tt
ranks-filter n mask (t ∷ p) u = by (in_face mask t.0) (ranks-filter n mask p u.1)
  where
    by : (b : Bool) → RanksBelow n (filter (λ t. in_face mask t.0) p) → RanksBelow n (cond b (t ∷ filter (λ t. in_face mask t.0) p) (filter (λ t. in_face mask t.0) p))
    by true ih = (u.0, ih)
    by false ih = ih

proper-filter : (mask : ℕ) (p : Sum) → Proper p → Proper (filter (λ t. in_face mask t.0) p)
proper-filter mask [] u = tt
proper-filter mask (t ∷ p) u = by (in_face mask t.0) (proper-filter mask p u.3)
  where
    by : (b : Bool) → Proper (filter (λ t. in_face mask t.0) p) → Proper (cond b (t ∷ filter (λ t. in_face mask t.0) p) (filter (λ t. in_face mask t.0) p))
    by true ih = (u.0, u.1, ranks-filter (rank t.0) mask p u.2, ih)
    by false ih = ih

pub kept_form : (mask : ℕ) (p : Sum) → Proper p → IsForm (filter (λ t. in_face mask t.0) p) (filter (λ t. in_face mask t.0) p)
kept_form mask p u = record { whole = alike_refl _; proper = proper-filter mask p u }

kept_more : (mask : ℕ) (p : Sum) (t : Exponents × ℕ) → filter (λ s. in_face mask s.0) (p ++ t ∷ []) ≡ filter (λ s. in_face mask s.0) p ++ cond (in_face mask t.0) (t ∷ []) []
kept_more mask [] t = refl
kept_more mask (s ∷ p) t = by (in_face mask s.0) (kept_more mask p t)
  where
    by : (b : Bool) → filter (λ s. in_face mask s.0) (p ++ t ∷ []) ≡ filter (λ s. in_face mask s.0) p ++ cond (in_face mask t.0) (t ∷ []) []
        → cond b (s ∷ filter (λ s. in_face mask s.0) (p ++ t ∷ [])) (filter (λ s. in_face mask s.0) (p ++ t ∷ [])) ≡ cond b (s ∷ filter (λ s. in_face mask s.0) p) (filter (λ s. in_face mask s.0) p) ++ cond (in_face mask t.0) (t ∷ []) []
    by true ih = λ i. s ∷ ih i
    by false ih = ih

-- a sum with one term more, or without it
abbrev pub with_kept : Bool → Sum → (Exponents × ℕ) → Sum
with_kept true p t = p ++ t ∷ []
with_kept false p t = p

pub kept_once : (mask : ℕ) (p : Sum) (t : Exponents × ℕ) (b : Bool) → in_face mask t.0 ≡ b → filter (λ s. in_face mask s.0) (p ++ t ∷ []) ≡ with_kept b (filter (λ s. in_face mask s.0) p) t
kept_once mask p t true e = kept_more mask p t ∙ (λ i. filter (λ s. in_face mask s.0) p ++ cond (e i) (t ∷ []) [])
kept_once mask p t false e = kept_more mask p t ∙ (λ i. filter (λ s. in_face mask s.0) p ++ cond (e i) (t ∷ []) []) ∙ append-nil (filter (λ s. in_face mask s.0) p)

-- what holds of each monomial of a list of terms holds of each of its sum
pub all_terms : (P : Exponents → Type 0) (ts : List Term) → ((j : ℕ) (d : Term) → j < length ts → P (get_or ts j d).mono) → All (λ t. P t.0) (sum_of ts)
all_terms P [] each k d lt = absurd (omega arith)
all_terms P (t ∷ ts) each zero d lt = each 0 t (omega arith)
all_terms P (t ∷ ts) each (suc k) d lt = all_terms P ts (λ j e h. each (suc j) e (omega arith)) k d (omega arith)

pub each_term : (P : Exponents → Type 0) (ts : List Term) → All (λ t. P t.0) (sum_of ts) → (i : ℕ) (x : Term) → x ≡ get_or ts i x → i < length ts → P x.mono
each_term P [] all i x e h = absurd (omega arith)
each_term P (t ∷ ts) all zero x e h = subst (λ (y : Term). P y.mono) (sym e) (all 0 (t.mono, t.number) (omega arith))
each_term P (t ∷ ts) all (suc i) x e h = each_term P ts (λ k d lt. all (suc k) d (omega arith)) i x e (omega arith)
