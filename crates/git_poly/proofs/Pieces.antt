-- Pieces of a list of terms in descending order, between the terms of another.
use Rattle.std.proofs.Common.{zero, suc, ℕ, ◌+◌, ◌-◌, ◌<◌, ◌≤◌, ◌≡◌, refl, List, [], ◌∷◌, ◌++◌, length, get_or, take, drop, sym, ap, subst, ◌∙◌, arith, Some}
use Rattle.std.specs.Prelude.{slice_get}
use Rattle.std.proofs.lemmas.List.{drop-drop}
use Rattle.std.proofs.lemmas.Option.{slice_get_read, slice_get_past, get_or_from_slice_get}
use Rattle.git_algebra.specs.Exponents.{Exponents}
use Rattle.git_algebra.specs.Order.{rank}
use Rattle.git_algebra.specs.Polynomials.{Proper, RanksBelow, ranks_more}
use Rattle.git_poly.specs.declared.term.Term.{Term}
use Rattle.git_poly.specs.Terms.{sum_of, IsFirstNotAbove}
use Rattle.git_poly.proofs.TermLists.{next_term}
use Rattle.git_poly.proofs.Splitting.{sum_of-parts}
use Rattle.git_poly.proofs.Merging.{RanksAbove}
use Rattle.git_poly.proofs.Searching.{ranks_fall}

front_above : (us : List Term) (n r : ℕ) → ((k : ℕ) (t : Term) → k < n → slice_get us k ≡ Some t → r < rank t.mono) → RanksAbove r (sum_of (take n us))
front_above [] zero r h = tt
front_above [] (suc n) r h = tt
front_above (t ∷ us) zero r h = tt
front_above (t ∷ us) (suc n) r h = (h 0 t (omega arith) refl, front_above us n r (λ k u less e. h (suc k) u (omega arith) e))

got_later : (ts : List Term) (i k : ℕ) (t : Term) → slice_get (drop i ts) k ≡ Some t → slice_get ts (i + k) ≡ Some t
got_later ts zero k t e = subst (λ n. slice_get ts n ≡ Some t) (let same : k ≡ 0 + k = omega arith in same) e
got_later [] (suc i) k t e = absurd cc
got_later (s ∷ ts) (suc i) k t e = subst (λ n. slice_get (s ∷ ts) n ≡ Some t) (let same : suc (i + k) ≡ suc i + k = omega arith in same) (got_later ts i k t e)

-- what is left of a list is a piece above a monomial, and the rest
pub piece_whole : (ts : List Term) (i n : ℕ) → i ≤ n → sum_of (drop i ts) ≡ sum_of (take (n - i) (drop i ts)) ++ sum_of (drop n ts)
piece_whole ts i n h =
    sum_of-parts (drop i ts) (n - i)
    ∙ ap (λ (us : List Term). sum_of (take (n - i) (drop i ts)) ++ sum_of us) (drop-drop (n - i) i ts ∙ ap (λ k. drop k ts) (let same : i + (n - i) ≡ n = omega arith in same))

pub piece_above : (ts : List Term) (i n : ℕ) (m : Exponents) → IsFirstNotAbove ts i m n → RanksAbove (rank m) (sum_of (take (n - i) (drop i ts)))
piece_above ts i n m h = front_above (drop i ts) (n - i) (rank m) (λ k t less e. h.above (i + k) t (omega arith) (omega arith) (got_later ts i k t e))

-- the rest is below a monomial that isn't its first
pub rest_below : (ts : List Term) (i n : ℕ) (m : Exponents) → IsFirstNotAbove ts i m n → (x : Term) → x ≡ get_or ts n x → n < length ts → (rank (get_or ts n x).mono ≡ rank m → ⊥) → Proper (sum_of (drop n ts)) → RanksBelow (rank m) (sum_of (drop n ts))
rest_below ts i n m h x is within other u =
    let whole = next_term ts n x is within in
    let least : rank x.mono ≤ rank m = h.not_above x (slice_get_read ts (length ts) n x refl within is) in
    let less : rank x.mono < rank m = smaller (rank x.mono) (rank m) least (λ e. other (ap (λ (t : Term). rank t.mono) (sym is) ∙ e)) in
    let rest : Proper ((x.mono, x.number) ∷ sum_of (drop (n + 1) ts)) = subst Proper whole u in
    subst (RanksBelow (rank m)) (sym whole) (less, ranks_more _ _ (sum_of (drop (n + 1) ts)) (omega (arith, less)) rest.2)
  where
    smaller : (a b : ℕ) → a ≤ b → (a ≡ b → ⊥) → a < b
    smaller a b h ne = omega arith

-- one place, read twice
pub read_same : (ts : List Term) (n : ℕ) (x y : Term) → x ≡ get_or ts n x → y ≡ get_or ts n y → n < length ts → x ≡ y
read_same ts n x y a b within = let e : Some x ≡ Some y = sym (slice_get_read ts (length ts) n x refl within a) ∙ slice_get_read ts (length ts) n y refl within b in cc

-- where a term is above a monomial, so is each one before it
pub above_before : (ts : List Term) (i : ℕ) (x : Term) (m : Exponents) → Proper (sum_of ts) → x ≡ get_or ts i x → i < length ts → rank m < rank x.mono → (k : ℕ) (t : Term) → k ≤ i → slice_get ts k ≡ Some t → rank m < rank t.mono
above_before ts i x m u is within above k t le here =
    omega (arith, above, ranks_fall ts k i x u le within, ap (λ (s : Term). rank s.mono) is, ap (λ (s : Term). rank s.mono) (get_or_from_slice_get ts k t x here))

-- a term that isn't above a monomial, read twice
pub not_above_at : (ts : List Term) (i : ℕ) (x : Term) (m : Exponents) → x ≡ get_or ts i x → (rank m < rank x.mono → ⊥) → (t : Term) → slice_get ts i ≡ Some t → rank t.mono ≤ rank m
not_above_at ts i x m is other t here =
    let same : rank x.mono ≡ rank t.mono = ap (λ (s : Term). rank s.mono) (is ∙ get_or_from_slice_get ts i t x here) in
    omega (arith, same, at_most (rank m) (rank x.mono) other)
  where
    at_most : (a b : ℕ) → (a < b → ⊥) → b ≤ a
    at_most a b other = omega arith

-- no term is at the end of a list
pub not_above_past : (ts : List Term) (i : ℕ) (m : Exponents) → length ts ≤ i → (t : Term) → slice_get ts i ≡ Some t → rank t.mono ≤ rank m
not_above_past ts i m past t here = absurd (let none = slice_get_past ts i past in cc)
