-- The graph of the tests, and its callers.
use Rattle.std.proofs.Common.{◌≡◌, ◌≢◌, ℕ, zero, suc, ◌+◌, ◌-◌, ◌<◌, ◌≤◌, List, [], ◌∷◌, ◌++◌, length, length-append, slice_index_or, refl, sym, ap, ◌∙◌, subst, arith, None, Bool, true, false}
use Rattle.std.specs.List.{Contains}
use native.Mathlib.Decide.{dec_lt}
use Rattle.git_machine.specs.Signatures.{Signature}
use Rattle.git_table.specs.declared.answers.Offer.{Offer}
use Rattle.git_table.specs.declared.answers.Offer.TheVariants as offer
use Rattle.git_table.specs.Views.{FrontierView, SeatView}
use Rattle.git_table.specs.declared.answers.Taken.TheVariants as taken
use Rattle.git_table.specs.declared.answers.Hinted.TheVariants as hinted
use Rattle.git_table.specs.Calls.{IsOf, Sees, OfferTells, TakeTells, HintTells}
use Rattle.git_table_tests.specs.Spokes.{spokes, IsCaller}

pub spokes_long : (n : ℕ) → length (spokes n) ≡ n
spokes_long zero = refl
spokes_long (suc n) = let t = spokes_long n in omega (arith, length-append (spokes n) (((n + 1) ∷ []) ∷ []))

at_end : (xs : List Signature) (x : Signature) (n : ℕ) (d : Signature) → length xs ≡ n → slice_index_or (xs ++ x ∷ []) n d ≡ x
at_end [] x zero d e = refl
at_end [] x (suc n) d e = absurd (omega arith)
at_end (y ∷ ys) x zero d e = absurd (omega arith)
at_end (y ∷ ys) x (suc n) d e = at_end ys x n d (omega arith)

at_old : (xs : List Signature) (x : Signature) (k : ℕ) (d : Signature) → k < length xs → slice_index_or (xs ++ x ∷ []) k d ≡ slice_index_or xs k d
at_old [] x k d l = absurd (omega arith)
at_old (y ∷ ys) x zero d l = refl
at_old (y ∷ ys) x (suc k) d l = at_old ys x k d (omega arith)

-- the k-th spoke
pub spoke_at : (n k : ℕ) (d : Signature) → k < n → slice_index_or (spokes n) k d ≡ ((k + 1) ∷ [])
spoke_at zero k d l = absurd (omega arith)
spoke_at (suc n) k d l = by (λ a. spoke_at n k d a) (dec_lt k n)
  where
    by : (k < n → slice_index_or (spokes n) k d ≡ ((k + 1) ∷ [])) → Dec (k < n) → slice_index_or (spokes n ++ ((n + 1) ∷ []) ∷ []) k d ≡ ((k + 1) ∷ [])
    by old (yes a) = at_old (spokes n) ((n + 1) ∷ []) k d (omega (arith, spokes_long n)) ∙ old a
    by old (no a) = let e : k ≡ n = omega arith in ap (λ (m : ℕ). slice_index_or (spokes n ++ ((n + 1) ∷ []) ∷ []) m d) e ∙ (at_end (spokes n) ((n + 1) ∷ []) n d (spokes_long n) ∙ ap (λ (m : ℕ). (m + 1) ∷ []) (sym e))

pub spokes_has : (n k : ℕ) → 0 < k → k ≤ n → Contains (spokes n) (k ∷ [])
spokes_has n k pos l = let e : k - 1 + 1 ≡ k = omega arith in (k - 1, omega (arith, spokes_long n), spoke_at n (k - 1) (k ∷ []) (omega arith) ∙ ap (λ (m : ℕ). m ∷ []) e)

pub spoke_of : (n : ℕ) (x : Signature) → Contains (spokes n) x → (k : ℕ) × (k < n) × (x ≡ ((k + 1) ∷ []))
spoke_of n x c = let l : c.0 < n = omega (arith, c.1, spokes_long n) in (c.0, l, sym c.2 ∙ spoke_at n c.0 x l)

module _ {G : Type 0} (f : FrontierView G) (s t : SeatView G) (x : Signature) where
  -- an offer keeps what was seen
  pub told_sees : (r : Offer) → OfferTells f s t x r → (q : ℕ) (y : Signature) → Sees s q y → Sees t q y
  told_sees (offer.New id) o q y h = subst (λ (u : SeatView G). Sees u q y) (sym o.1.2) (suc h.0, h.1)
  told_sees (offer.Seen id) o q y h = subst (λ (u : SeatView G). Sees u q y) (sym o.1) (suc h.0, h.1)
  told_sees offer.Full o q y h = subst (λ (u : SeatView G). Sees u q y) (sym o.2) h

  pub told_seen : (r : Offer) → OfferTells f s t x r → r ≢ offer.Full → (q : ℕ) × Sees t q x
  told_seen (offer.New id) o n = (id, subst (λ (u : SeatView G). Sees u id x) (sym o.1.2) (0, refl))
  told_seen (offer.Seen id) o n = (id, subst (λ (u : SeatView G). Sees u id x) (sym o.1) (0, refl))
  told_seen offer.Full o n = absurd (n refl)

  pub told_caller : (r : Offer) → OfferTells f s t x r → (b : Bool) → IsCaller f s b → IsCaller f t b
  told_caller (offer.New id) o b c = subst (λ (u : SeatView G). IsCaller f u b) (sym o.1.2) record { of = c.of; place = c.place; hand = λ e. let h = c.hand e in (h.0, h.1, h.2, (suc h.3.0, h.3.1)); free = c.free }
  told_caller (offer.Seen id) o b c = subst (λ (u : SeatView G). IsCaller f u b) (sym o.1) record { of = c.of; place = c.place; hand = λ e. let h = c.hand e in (h.0, h.1, h.2, (suc h.3.0, h.3.1)); free = c.free }
  told_caller offer.Full o b c = subst (λ (u : SeatView G). IsCaller f u b) (sym o.2) record { of = c.of; place = c.place; hand = c.hand; free = c.free }

pub new_not_full : (n : ℕ) → ◌≡◌ {A = Offer} (offer.New n) offer.Full → ⊥
new_not_full n e = cc

pub seen_not_full : (n : ℕ) → ◌≡◌ {A = Offer} (offer.Seen n) offer.Full → ⊥
seen_not_full n e = cc

module _ {G : Type 0} (f : FrontierView G) (s t : SeatView G) (x : Signature) where
  -- one spoke more is seen
  pub told_next : (r : Offer) → OfferTells f s t x r → r ≢ offer.Full → (n : ℕ) → x ≡ ((n + 1) ∷ []) → ((k : ℕ) → k < n → (q : ℕ) × Sees s q ((k + 1) ∷ [])) → (k : ℕ) → k < n + 1 → (q : ℕ) × Sees t q ((k + 1) ∷ [])
  told_next r o ne n is old k l = by (dec_lt k n)
    where
      by : Dec (k < n) → (q : ℕ) × Sees t q ((k + 1) ∷ [])
      by (yes a) = let h = old k a in (h.0, told_sees f s t x r o h.0 ((k + 1) ∷ []) h.1)
      by (no a) = let e : n ≡ k = omega arith in let h = told_seen f s t x r o ne in (h.0, subst (Sees t h.0) (is ∙ ap (λ (m : ℕ). (m + 1) ∷ []) e) h.1)

not_free : ◌≡◌ {A = Bool} true false → ⊥
not_free e = cc

module _ {G : Type 0} (f : FrontierView G) (s t u : SeatView G) (id : ℕ) (x : Signature) (of : IsOf f s) (place : s.places ≡ 1) (read : u ≡ record t { seen = (id, x) ∷ t.seen }) where
  -- what was taken, and then read
  pub take_read : TakeTells f s t (taken.Work id) → IsCaller f u true
  take_read o = subst (λ (w : SeatView G). IsCaller f w true) (sym (read ∙ ap (λ (w : SeatView G). record w { seen = (id, x) ∷ w.seen }) o.1.3)) record { of = of; place = place; hand = λ _. (id, x, refl, (0, refl)); free = λ e. absurd (not_free e) }

  pub hint_read : (r : ℕ) → HintTells f s t r (hinted.Work id) → IsCaller f u true
  hint_read r o = subst (λ (w : SeatView G). IsCaller f w true) (sym (read ∙ (ap (λ (m : ℕ). record t { seen = (m, x) ∷ t.seen }) o.0 ∙ ap (λ (w : SeatView G). record w { seen = (r, x) ∷ w.seen }) o.1))) record { of = of; place = place; hand = λ _. (r, x, refl, (0, refl)); free = λ e. absurd (not_free e) }

-- a seat of one place with no hand
pub free_caller : {G : Type 0} (f : FrontierView G) (s : SeatView G) → IsOf f s → s.places ≡ 1 → s.hand ≡ None → IsCaller f s false
free_caller f s of place free = record { of = of; place = place; hand = λ e. absurd (not_free (sym e)); free = λ _. free }
