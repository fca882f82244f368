-- Marks as bits of words.
use Rattle.std.proofs.Common.{◌≡◌, ◌⊎◌, ℕ, zero, suc, ◌+◌, ◌*◌, ◌/◌, ◌%◌, ◌^◌, ◌<◌, ◌≤◌, List, [], ◌∷◌, ◌++◌, length, get_or, set, min, refl, sym, ◌∙◌, ap, subst, arith, inl, inr, ◌≢◌, get_or-set_other, get_or-set_same}
use Rattle.std.specs.Prelude.{◌↔◌}
use Rattle.std.specs.Int.{bit_at, w64}
use Rattle.std.specs.Int.RustNames.{bit_or, bit_and}
use Rattle.std.proofs.lemmas.Nat.Bits.{bit_at_and, bit_at-lt, same_from_bits, bit_at_above, bit_at_set_same, bit_at_set_other, bit_at-zero}
use Rattle.git_adjacency.specs.Marks.{HasMark}

one_or_zero : (n : ℕ) → n < 2 → (n ≡ 0) ⊎ (n ≡ 1)
one_or_zero zero h = inl refl
one_or_zero (suc zero) h = inr refl
one_or_zero (suc (suc n)) h = absurd (omega arith)

pub less : (m n : ℕ) → (m < n) ⊎ (n ≤ m)
less zero zero = inr (omega arith)
less zero (suc n) = inl (omega arith)
less (suc m) zero = inr (omega arith)
less (suc m) (suc n) = elim (less m n) [ inl h ↦ inl (omega (arith, h)) | inr h ↦ inr (omega (arith, h)) ]

pub word_has : (a b t i : ℕ) → bit_and (bit_and a b) t ≡ bit_and a b → bit_at a i ≡ 1 → bit_at b i ≡ 1 → bit_at t i ≡ 1
word_has a b t i e p q =
    let f : bit_at (bit_and (bit_and a b) t) i ≡ bit_at (bit_and a b) i = ap (λ (n : ℕ). bit_at n i) e in
    let g = bit_at_and (bit_and a b) t i in let h = bit_at_and a b i in let l = bit_at-lt t i in
    omega (arith, f, g, h, l, p, q)

pub word_same : (a b t : ℕ) → a < 2 ^ 64 → ((i : ℕ) → i < 64 → bit_at a i ≡ 1 → bit_at b i ≡ 1 → bit_at t i ≡ 1) → bit_and (bit_and a b) t ≡ bit_and a b
word_same a b t small all = same_from_bits (bit_and (bit_and a b) t) (bit_and a b) each where
  each : (i : ℕ) → bit_at (bit_and (bit_and a b) t) i ≡ bit_at (bit_and a b) i
  each i =
      let g = bit_at_and (bit_and a b) t i in let h = bit_at_and a b i in
      elim (one_or_zero (bit_at a i) (bit_at-lt a i)) [
        | inl z ↦ omega (arith, g, h, z)
        | inr p ↦ elim (one_or_zero (bit_at b i) (bit_at-lt b i)) [
          | inl z ↦ omega (arith, g, h, z)
          | inr q ↦ elim (less i 64) [
            | inl l ↦ (let o = all i l p q in omega (arith, g, h, p, q, o))
            | inr l ↦ absurd (let o = bit_at_above a 64 i small l in omega (arith, o, p))
          ]
        ]
      ]

get_past : (xs : List ℕ) (i : ℕ) → length xs ≤ i → get_or xs i 0 ≡ 0
get_past [] i h = refl
get_past (x ∷ xs) zero h = absurd (omega arith)
get_past (x ∷ xs) (suc i) h = get_past xs i (omega arith)

-- a mark lies within the words
pub has_within : (xs : List ℕ) (j : ℕ) → HasMark xs j → j / 64 < length xs
has_within xs j h = elim (less (j / 64) (length xs)) [
  | inl l ↦ l
  | inr l ↦ absurd (let e = ap (λ (w : ℕ). bit_at w (j % 64)) (get_past xs (j / 64) l) in let z = bit_at-zero (j % 64) in omega (arith, e, z, h))
]

-- the place of bit i of word w
pub place_word : (w i : ℕ) → i < 64 → (64 * w + i) / 64 ≡ w
place_word w i h = omega arith

pub place_bit : (w i : ℕ) → i < 64 → (64 * w + i) % 64 ≡ i
place_bit w i h = omega arith

pub has_at : (xs : List ℕ) (w i : ℕ) → i < 64 → bit_at (get_or xs w 0) i ≡ 1 → HasMark xs (64 * w + i)
has_at xs w i h e = subst (λ (n : ℕ). bit_at (get_or xs n 0) ((64 * w + i) % 64) ≡ 1) (sym (place_word w i h)) (subst (λ (n : ℕ). bit_at (get_or xs w 0) n ≡ 1) (sym (place_bit w i h)) e)

pub at_has : (xs : List ℕ) (w i : ℕ) → i < 64 → HasMark xs (64 * w + i) → bit_at (get_or xs w 0) i ≡ 1
at_has xs w i h e = subst (λ (n : ℕ). bit_at (get_or xs w 0) n ≡ 1) (place_bit w i h) (subst (λ (n : ℕ). bit_at (get_or xs n 0) ((64 * w + i) % 64) ≡ 1) (place_word w i h) e)

same_or_not : (m n : ℕ) → (m ≡ n) ⊎ (m ≡ n → ⊥)
same_or_not zero zero = inl refl
same_or_not zero (suc n) = inr (λ e. omega (arith, e))
same_or_not (suc m) zero = inr (λ e. omega (arith, e))
same_or_not (suc m) (suc n) = elim (same_or_not m n) [ inl e ↦ inl (ap suc e) | inr f ↦ inr (λ e. f (omega (arith, e))) ]

-- one mark more
module _ (xs : List ℕ) (bit : ℕ) (room : bit < 64 * length xs) where
  abbrev word : ℕ
  word = get_or xs (bit / 64) 0

  abbrev new : ℕ
  new = bit_or word (1 * 2 ^ (bit % 64) % 2 ^ 64)

  inside : bit / 64 < length xs
  inside = omega (arith, room)

  small : bit % 64 < 64
  small = omega arith

  off : (j : ℕ) → (j / 64 ≡ bit / 64 → ⊥) → get_or (set xs (bit / 64) new) (j / 64) 0 ≡ get_or xs (j / 64) 0
  off j ne = let h : j / 64 ≢ bit / 64 = ne in rw get_or-set_other refl

  on : get_or (set xs (bit / 64) new) (bit / 64) 0 ≡ new
  on = let h = inside in rw get_or-set_same refl

  same_bit : (j : ℕ) → j / 64 ≡ bit / 64 → j % 64 ≡ bit % 64 → j ≡ bit
  same_bit j e f = omega (arith, e, f)

  here : (j : ℕ) → j / 64 ≡ bit / 64 → HasMark (set xs (bit / 64) new) j ↔ (HasMark xs j ⊎ (j ≡ bit))
  here j e = elim (same_or_not (j % 64) (bit % 64)) [
    | inl f ↦ (
      (λ h. inr (same_bit j e f)),
      (λ h. subst (λ (n : ℕ). bit_at (get_or (set xs (bit / 64) new) n 0) (j % 64) ≡ 1) (sym e)
          (subst (λ (n : ℕ). bit_at (get_or (set xs (bit / 64) new) (bit / 64) 0) n ≡ 1) (sym f)
          (ap (λ (n : ℕ). bit_at n (bit % 64)) on ∙ bit_at_set_same w64 word (bit % 64) small))),
    )
    | inr ne ↦ (
        let g : bit_at new (j % 64) ≡ bit_at word (j % 64) = bit_at_set_other w64 word (bit % 64) small (j % 64) ne in
        let l : bit_at (get_or (set xs (bit / 64) new) (j / 64) 0) (j % 64) ≡ bit_at (get_or xs (j / 64) 0) (j % 64)
        = ap (λ (n : ℕ). bit_at (get_or (set xs (bit / 64) new) n 0) (j % 64)) e ∙ ap (λ (n : ℕ). bit_at n (j % 64)) on ∙ g ∙ ap (λ (n : ℕ). bit_at (get_or xs n 0) (j % 64)) (sym e) in
        ((λ h. inl (sym l ∙ h)), (λ h. elim h [ inl p ↦ l ∙ p | inr q ↦ absurd (ne (ap (λ (n : ℕ). n % 64) q)) ])))
  ]

  pub mark_each : (j : ℕ) → HasMark (set xs (bit / 64) new) j ↔ (HasMark xs j ⊎ (j ≡ bit))
  mark_each j = elim (same_or_not (j / 64) (bit / 64)) [
    | inl e ↦ here j e
    | inr ne ↦ (
        let l = ap (λ (n : ℕ). bit_at n (j % 64)) (off j ne) in
        ((λ h. inl (sym l ∙ h)), (λ h. elim h [ inl p ↦ l ∙ p | inr q ↦ absurd (ne (ap (λ (n : ℕ). n / 64) q)) ])))
  ]

-- the marks of both
pub both_each : (v r s : List ℕ) → length v ≡ length r → ((i : ℕ) → i < length r → get_or v i 0 ≡ bit_and (get_or r i 0) (get_or s i 0)) → (j : ℕ) → HasMark v j ↔ (HasMark r j × HasMark s j)
both_each v r s e words j = (to, back) where
  at : j / 64 < length r → bit_at (get_or v (j / 64) 0) (j % 64) ≡ min (bit_at (get_or r (j / 64) 0) (j % 64)) (bit_at (get_or s (j / 64) 0) (j % 64))
  at h = ap (λ (n : ℕ). bit_at n (j % 64)) (words (j / 64) h) ∙ bit_at_and (get_or r (j / 64) 0) (get_or s (j / 64) 0) (j % 64)

  to : HasMark v j → HasMark r j × HasMark s j
  to h =
      let l = at (subst (λ (n : ℕ). j / 64 < n) e (has_within v j h)) in
      let p = bit_at-lt (get_or r (j / 64) 0) (j % 64) in let q = bit_at-lt (get_or s (j / 64) 0) (j % 64) in
      (omega (arith, h, l, p, q), omega (arith, h, l, p, q))

  back : (HasMark r j × HasMark s j) → HasMark v j
  back h = let l = at (has_within r j h.0) in let p = h.0 in let q = h.1 in omega (arith, p, q, l)

pub any_number : (xs : List ℕ) (i d e : ℕ) → i < length xs → get_or xs i d ≡ get_or xs i e
any_number [] i d e h = absurd (omega arith)
any_number (x ∷ xs) zero d e h = refl
any_number (x ∷ xs) (suc i) d e h = any_number xs i d e (omega arith)

pub zero_end : (xs : List ℕ) → ((k : ℕ) → get_or xs k 0 ≡ 0) → (k : ℕ) → get_or (xs ++ 0 ∷ []) k 0 ≡ 0
zero_end [] all zero = refl
zero_end [] all (suc k) = refl
zero_end (x ∷ xs) all zero = all 0
zero_end (x ∷ xs) all (suc k) = zero_end xs (λ i. all (suc i)) k

pub none_has : (xs : List ℕ) → ((k : ℕ) → get_or xs k 0 ≡ 0) → (j : ℕ) → HasMark xs j → ⊥
none_has xs all j h = let e = ap (λ (w : ℕ). bit_at w (j % 64)) (all (j / 64)) in let z = bit_at-zero (j % 64) in omega (arith, e, z, h)

pub common_more : (r s t : List ℕ) (i : ℕ) → ((j : ℕ) → j / 64 < i → HasMark r j → HasMark s j → HasMark t j)
    → bit_and (bit_and (get_or r i 0) (get_or s i 0)) (get_or t i 0) ≡ bit_and (get_or r i 0) (get_or s i 0)
    → (j : ℕ) → j / 64 < i + 1 → HasMark r j → HasMark s j → HasMark t j
common_more r s t i before e j h hr hs = elim (less (j / 64) i) [
  | inl l ↦ before j l hr hs
  | inr l ↦ (
      let q : j / 64 ≡ i = omega (arith, h, l) in
      subst (λ (n : ℕ). bit_at (get_or t n 0) (j % 64) ≡ 1) (sym q)
      (word_has (get_or r i 0) (get_or s i 0) (get_or t i 0) (j % 64) e
      (subst (λ (n : ℕ). bit_at (get_or r n 0) (j % 64) ≡ 1) q hr) (subst (λ (n : ℕ). bit_at (get_or s n 0) (j % 64) ≡ 1) q hs)))
]

pub common_all : (r s t : List ℕ) (i : ℕ) → length r ≤ i → ((j : ℕ) → j / 64 < i → HasMark r j → HasMark s j → HasMark t j) → (j : ℕ) → HasMark r j → HasMark s j → HasMark t j
common_all r s t i h before j hr hs = before j (let l = has_within r j hr in omega (arith, l, h)) hr hs
