-- A sweep over the places before one, from the last on.
use Rattle.std.proofs.Common.{◌≡◌, ◌⊎◌, ◌↔◌, ◌≢◌, ℕ, zero, suc, ◌+◌, ◌<◌, ◌≤◌, List, length, get_or, set, refl, sym, ◌∙◌, subst, arith, inl, inr, Bool, true, get_or-set_other, get_or-set_same, length-set}
use Rattle.git_orbit.specs.Keys.{IsSwept}

-- the places from c on are done
pub record Sweeping (Same : ℕ → Type 0) (from c : ℕ) (old new : List Bool) (best : ℕ) : Type 0 where
  pub long : length new ≡ length old
  pub low : (p : ℕ) → p < c → get_or new p true ≡ get_or old p true
  pub marks : (p : ℕ) → c ≤ p → p < from → (get_or new p true ≡ true) ↔ ((get_or old p true ≡ true) ⊎ Same p)
  pub few : best ≤ from
  pub here : c ≤ best
  pub hit : (best ≡ from) ⊎ Same best
  pub first : (p : ℕ) → c ≤ p → p < from → Same p → best ≤ p

order : (i j : ℕ) → (i < j) ⊎ (j ≤ i)
order zero zero = inr (omega arith)
order zero (suc j) = inl (omega arith)
order (suc i) zero = inr (omega arith)
order (suc i) (suc j) = elim (order i j) [ inl h ↦ inl (omega (arith, h)) | inr h ↦ inr (omega (arith, h)) ]

other : (xs : List Bool) (p q : ℕ) → (q ≡ p → ⊥) → get_or (set xs p true) q true ≡ get_or xs q true
other xs p q ne = let h : q ≢ p = ne in rw get_or-set_other refl

same : (xs : List Bool) (p : ℕ) → p < length xs → get_or (set xs p true) p true ≡ true
same xs p h = rw get_or-set_same refl

module _ (Same : ℕ → Type 0) (from : ℕ) where
  pub sweep_none : (old : List Bool) → Sweeping Same from from old old from
  sweep_none old = record {
    long = refl;
    low = λ p h. refl;
    marks = λ p l h. absurd (omega (arith, l, h));
    few = omega arith;
    here = omega arith;
    hit = inl refl;
    first = λ p l h s. absurd (omega (arith, l, h));
  }

  module _ (c p : ℕ) (is : c ≡ p + 1) (old new : List Bool) (best : ℕ) (s : Sweeping Same from c old new best) (in_range : p < from) where
    at_or_after : (q : ℕ) → p ≤ q → (p ≡ q) ⊎ (c ≤ q)
    at_or_after q l = elim (order p q) [ inl h ↦ inr (omega (arith, is, h)) | inr h ↦ inl (omega (arith, l, h)) ]

    pub sweep_yes : p < length new → Same p → Sweeping Same from p old (set new p true) p
    sweep_yes h y = record {
      long = let e = length-set new p true in let l = s.long in omega (arith, e, l);
      low = λ q l. other new p q (λ e. omega (arith, e, l)) ∙ s.low q (omega (arith, is, l));
      marks = λ q l u. elim (at_or_after q l) [
        | inl e ↦ ((λ t. inr (subst Same e y)), (λ t. subst (λ (n : ℕ). get_or (set new p true) n true ≡ true) e (same new p h)))
        | inr m ↦ (
            let o = other new p q (λ e. omega (arith, e, m, is)) in
            let w = s.marks q m u in
            ((λ t. w.0 (sym o ∙ t)), (λ t. o ∙ w.1 t)))
      ];
      few = omega (arith, in_range);
      here = omega arith;
      hit = inr y;
      first = λ q l u z. l;
    }

    pub sweep_no : (Same p → ⊥) → Sweeping Same from p old new best
    sweep_no n = record {
      long = s.long;
      low = λ q l. s.low q (omega (arith, is, l));
      marks = λ q l u. elim (at_or_after q l) [
        | inl e ↦ (
            let o = subst (λ (j : ℕ). get_or new j true ≡ get_or old j true) e (s.low p (omega (arith, is))) in
            ((λ t. inl (sym o ∙ t)), (λ t. elim t [ inl a ↦ o ∙ a | inr b ↦ absurd (n (subst Same (sym e) b)) ])))
        | inr m ↦ s.marks q m u
      ];
      few = s.few;
      here = let a = s.here in omega (arith, is, a);
      hit = s.hit;
      first = λ q l u z. elim (at_or_after q l) [ inl e ↦ absurd (n (subst Same (sym e) z)) | inr m ↦ s.first q m u z ];
    }

  pub sweep_end : (c : ℕ) (old new : List Bool) (best : ℕ) → Sweeping Same from c old new best → ((p : ℕ) → p < c → Same p → ⊥) → IsSwept Same from old new best
  sweep_end c old new best s none = record {
    long = s.long;
    marks = λ p u. elim (order p c) [
      | inl l ↦ (let o = s.low p l in ((λ t. inl (sym o ∙ t)), (λ t. elim t [ inl a ↦ o ∙ a | inr b ↦ absurd (none p l b) ])))
      | inr l ↦ s.marks p l u
    ];
    few = s.few;
    hit = s.hit;
    first = λ p u z. elim (order p c) [ inl l ↦ absurd (none p l z) | inr l ↦ s.first p l u z ];
  }

pub swept_along : (Same Other : ℕ → Type 0) (from : ℕ) (old new : List Bool) (best : ℕ) → ((p : ℕ) → p ≤ from → Same p ↔ Other p) → IsSwept Same from old new best → IsSwept Other from old new best
swept_along Same Other from old new best is s = record {
  long = s.long;
  marks = λ p u. (
    λ t. elim ((s.marks p u).0 t) [ inl a ↦ inl a | inr b ↦ inr ((is p (omega (arith, u))).0 b) ],
    λ t. (s.marks p u).1 (elim t [ inl a ↦ inl a | inr b ↦ inr ((is p (omega (arith, u))).1 b) ]),
  );
  few = s.few;
  hit = elim s.hit [ inl e ↦ inl e | inr b ↦ inr ((is best s.few).0 b) ];
  first = λ p u z. s.first p u ((is p (omega (arith, u))).1 z);
}
