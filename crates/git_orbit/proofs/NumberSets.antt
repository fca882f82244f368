-- Bits of words, and sets of numbers as words.
use Rattle.std.proofs.Common.{◌≡◌, ◌≢◌, ◌⊎◌, ◌↔◌, ◌∙◌, ℕ, zero, suc, ◌+◌, ◌*◌, ◌/◌, ◌%◌, ◌^◌, ◌<◌, ◌≤◌, IsTrue, ap, arith, get_or, get_or-set_other, get_or-set_same, inl, inr, length, length-set, min, refl, set, subst, sym}
use Rattle.std.proofs.Math.Nat.{pow-suc}
use Rattle.std.proofs.lemmas.Bool.{cases_lt, eq-eqb, eqb-true}
use Rattle.std.proofs.lemmas.Nat.{and_le_l, pow_pos}
use Rattle.std.proofs.lemmas.Nat.Bits.{bit_at-lt, bit_at-zero, bit_at_and, bit_at_not, bit_at_set_other, bit_at_set_same}
use Rattle.std.proofs.lemmas.List.{get_or_past}
use Rattle.std.specs.Int.{bit_at, bit_not, w64}
use Rattle.std.specs.Int.RustNames.{bit_and, bit_or}
use Rattle.git_bits.proofs.Bits.{bit_of_part, no_high_bit, odd_or_even}
use Rattle.git_bits.specs.Bits.{has_bit}
use Rattle.git_machine.specs.Signatures.{Signature, Has}

-- ---- bits
pub bit_to : (n i : ℕ) → IsTrue (has_bit n i) → bit_at n i ≡ 1
bit_to n i h = eqb-true (bit_at n i) 1 (sym (bit_of_part n i) ∙ h)

pub bit_from : (n i : ℕ) → bit_at n i ≡ 1 → IsTrue (has_bit n i)
bit_from n i e = bit_of_part n i ∙ eq-eqb (bit_at n i) 1 e

pub without_bits : (a b : ℕ) → b < 2 ^ 64 → (j : ℕ) → j < 64 → IsTrue (has_bit (bit_and a (bit_not w64 b)) j) ↔ (IsTrue (has_bit a j) × (IsTrue (has_bit b j) → ⊥))
without_bits a b small j low =
    let both = bit_at_and a (bit_not w64 b) j in
    let turned = bit_at_not w64 b j small low in
    let first = bit_at-lt a j in
    let second = bit_at-lt b j in (
      λ h. let e = bit_to (bit_and a (bit_not w64 b)) j h in (bit_from a j (omega (arith, both, turned, first, e)), λ o. let f = bit_to b j o in omega (arith, both, turned, e, f)),
      λ p. let e = bit_to a j p.0 in bit_from (bit_and a (bit_not w64 b)) j (elim (cases_lt (bit_at b j) 1) [
        | inl less ↦ omega (arith, both, turned, e, less)
        | inr more ↦ absurd (p.1 (bit_from b j (omega (arith, second, more))))
      ]),
    )

pub with_bits : (a b : ℕ) → b < 64 → (j : ℕ) → IsTrue (has_bit (bit_or a (1 * 2 ^ b % 2 ^ 64)) j) ↔ (IsTrue (has_bit a j) ⊎ (j ≡ b))
with_bits a b low j = elim (cases_lt j b) [
  | inl less ↦ other (λ e. omega (arith, less, e))
  | inr more ↦ elim (cases_lt b j) [
    | inl less ↦ other (λ e. omega (arith, less, e))
    | inr least ↦ (let e : j ≡ b = omega (arith, more, least) in (
      λ h. inr e,
      λ p. bit_from (bit_or a (1 * 2 ^ b % 2 ^ 64)) j (ap (bit_at (bit_or a (1 * 2 ^ b % 2 ^ 64))) e ∙ bit_at_set_same w64 a b low),
    ))
  ]
]
  where
    other : j ≢ b → IsTrue (has_bit (bit_or a (1 * 2 ^ b % 2 ^ 64)) j) ↔ (IsTrue (has_bit a j) ⊎ (j ≡ b))
    other ne =
        let e = bit_at_set_other w64 a b low j ne in (
          λ h. inl (bit_from a j (sym e ∙ bit_to (bit_or a (1 * 2 ^ b % 2 ^ 64)) j h)),
          λ p. elim p [ inl h ↦ bit_from (bit_or a (1 * 2 ^ b % 2 ^ 64)) j (e ∙ bit_to a j h) | inr f ↦ absurd (ne f) ],
        )

-- a number below 2^w that isn't 0 has a bit
some_bit : (w m : ℕ) → 0 < m → m < 2 ^ w → (j : ℕ) × (j < w) × IsTrue (has_bit m j)
some_bit zero m some small = absurd (omega (arith, some, small))
some_bit (suc w) m some small = elim (odd_or_even m) [
  | inl odd ↦ (0, omega arith, eq-eqb (m % 2) 1 odd)
  | inr even ↦ (
      let e = pow-suc 2 w in
      let rest = some_bit w (m / 2) (omega (arith, some, even)) (omega (arith, small, e)) in
      let low = rest.1 in
      (suc rest.0, omega (arith, low), rest.2))
]

pub common_bit : (a b : ℕ) → a < 2 ^ 64 → (bit_and a b ≡ 0 → ⊥) → (j : ℕ) × (j < 64) × IsTrue (has_bit a j) × IsTrue (has_bit b j)
common_bit a b small some =
    let less = and_le_l a b in
    let p = some_bit 64 (bit_and a b) (elim (cases_lt 0 (bit_and a b)) [ inl h ↦ h | inr h ↦ absurd (some (omega (arith, h))) ]) (omega (arith, small, less)) in
    let e = bit_to (bit_and a b) p.0 p.2 in
    let f = bit_at_and a b p.0 in
    let g = bit_at-lt a p.0 in
    let h = bit_at-lt b p.0 in
    (p.0, p.1, bit_from a p.0 (omega (arith, e, f, g)), bit_from b p.0 (omega (arith, e, f, h)))

pub no_common_bit : (a b : ℕ) → bit_and a b ≡ 0 → (j : ℕ) → IsTrue (has_bit a j) → IsTrue (has_bit b j) → ⊥
no_common_bit a b none j p q =
    let e = bit_to a j p in
    let f = bit_to b j q in
    let g = bit_at_and a b j in
    let h = ap (λ (n : ℕ). bit_at n j) none ∙ bit_at-zero j in
    omega (arith, e, f, g, h)

-- ---- sets
pub number_past : (words : Signature) (n : ℕ) → length words ≤ n / 64 → Has words n → ⊥
number_past words n past has =
    no_high_bit 0 (n % 64) (pow_pos (n % 64)) (subst (λ w. IsTrue (has_bit w (n % 64))) (get_or_past words (n / 64) 0 past) has)

pub number_in : (words : Signature) (n : ℕ) → Has words n → n / 64 < length words
number_in words n has = elim (cases_lt (n / 64) (length words)) [ inl low ↦ low | inr past ↦ absurd (number_past words n past has) ]

pub put_number : (old : Signature) (n word : ℕ) → n / 64 < length old → ((j : ℕ) → j < 64 → IsTrue (has_bit word j) ↔ (IsTrue (has_bit (get_or old (n / 64) 0) j) ⊎ (j ≡ n % 64)))
    → (m : ℕ) → Has (set old (n / 64) word) m ↔ (Has old m ⊎ (m ≡ n))
put_number old n word low bits m = elim (cases_lt (m / 64) (n / 64)) [
  | inl less ↦ other (λ e. omega (arith, less, e))
  | inr more ↦ elim (cases_lt (n / 64) (m / 64)) [
    | inl less ↦ other (λ e. omega (arith, less, e))
    | inr least ↦ same (omega (arith, more, least))
  ]
]
  where
    other : (m / 64 ≡ n / 64 → ⊥) → Has (set old (n / 64) word) m ↔ (Has old m ⊎ (m ≡ n))
    other ne =
        let e : get_or (set old (n / 64) word) (m / 64) 0 ≡ get_or old (m / 64) 0 = let d : m / 64 ≢ n / 64 = ne in rw get_or-set_other refl in (
          λ h. inl (subst (λ (w : ℕ). IsTrue (has_bit w (m % 64))) e h),
          λ p. elim p [
            | inl h ↦ subst (λ (w : ℕ). IsTrue (has_bit w (m % 64))) (sym e) h
            | inr f ↦ absurd (ne (ap (λ (x : ℕ). x / 64) f))
          ],
        )

    same : m / 64 ≡ n / 64 → Has (set old (n / 64) word) m ↔ (Has old m ⊎ (m ≡ n))
    same at =
        let here : get_or (set old (n / 64) word) (n / 64) 0 ≡ word = rw get_or-set_same refl in
        let e : get_or (set old (n / 64) word) (m / 64) 0 ≡ word = ap (λ (q : ℕ). get_or (set old (n / 64) word) q 0) at ∙ here in
        let f : get_or old (n / 64) 0 ≡ get_or old (m / 64) 0 = ap (λ (q : ℕ). get_or old q 0) (sym at) in
        let b = bits (m % 64) (omega arith) in (
          λ h. elim (b.0 (subst (λ (w : ℕ). IsTrue (has_bit w (m % 64))) e h)) [
            | inl o ↦ inl (subst (λ (w : ℕ). IsTrue (has_bit w (m % 64))) f o)
            | inr i ↦ inr (omega (arith, at, i))
          ],
          λ p. subst (λ (w : ℕ). IsTrue (has_bit w (m % 64))) (sym e) (b.1 (elim p [
            | inl o ↦ inl (subst (λ (w : ℕ). IsTrue (has_bit w (m % 64))) (sym f) o)
            | inr i ↦ inr (ap (λ (x : ℕ). x % 64) i)
          ])),
        )

-- ---- taking numbers out, from the first word on
-- the words before place i are done
pub record TakesOut (old other : Signature) (i : ℕ) (new : Signature) : Type 0 where
  pub long : length new ≡ length old
  pub done : (q j : ℕ) → q < i → j < 64 → IsTrue (has_bit (get_or new q 0) j) ↔ (IsTrue (has_bit (get_or old q 0) j) × (IsTrue (has_bit (get_or other q 0) j) → ⊥))
  pub rest : (q : ℕ) → i ≤ q → get_or new q 0 ≡ get_or old q 0

pub takes_none : (old other : Signature) → TakesOut old other 0 old
takes_none old other = record { long = refl; done = λ q j low. absurd (omega (arith, low)); rest = λ q low. refl }

pub takes_more : (old other new : Signature) (i word : ℕ) → i < length new → TakesOut old other i new
    → ((j : ℕ) → j < 64 → IsTrue (has_bit word j) ↔ (IsTrue (has_bit (get_or new i 0) j) × (IsTrue (has_bit (get_or other i 0) j) → ⊥))) → TakesOut old other (i + 1) (set new i word)
takes_more old other new i word low t bits = record {
  long = (let e = length-set new i word in let f = t.long in omega (arith, e, f));
  done = λ q j below few. elim (cases_lt q i) [
    | inl less ↦ (let d : q ≢ i = (λ e. omega (arith, e, less)) in
        let e : get_or (set new i word) q 0 ≡ get_or new q 0 = rw get_or-set_other refl in
        let o = t.done q j less few in (
          λ h. o.0 (subst (λ (w : ℕ). IsTrue (has_bit w j)) e h),
          λ p. subst (λ (w : ℕ). IsTrue (has_bit w j)) (sym e) (o.1 p),
        ))
    | inr more ↦ (let at : i ≡ q = omega (arith, below, more) in
        subst (λ (m : ℕ). IsTrue (has_bit (get_or (set new i word) m 0) j) ↔ (IsTrue (has_bit (get_or old m 0) j) × (IsTrue (has_bit (get_or other m 0) j) → ⊥))) at (last j few))
  ];
  rest = λ q high. (let d : q ≢ i = (λ e. omega (arith, e, high)) in
      let e : get_or (set new i word) q 0 ≡ get_or new q 0 = rw get_or-set_other refl in e ∙ t.rest q (omega (arith, high)));
}
  where
    last : (j : ℕ) → j < 64 → IsTrue (has_bit (get_or (set new i word) i 0) j) ↔ (IsTrue (has_bit (get_or old i 0) j) × (IsTrue (has_bit (get_or other i 0) j) → ⊥))
    last j few =
        let here : get_or (set new i word) i 0 ≡ word = rw get_or-set_same refl in
        let was : get_or new i 0 ≡ get_or old i 0 = t.rest i (omega arith) in
        let b = bits j few in (
          λ h. let p = b.0 (subst (λ (w : ℕ). IsTrue (has_bit w j)) here h) in (subst (λ (w : ℕ). IsTrue (has_bit w j)) was p.0, p.1),
          λ p. subst (λ (w : ℕ). IsTrue (has_bit w j)) (sym here) (b.1 (subst (λ (w : ℕ). IsTrue (has_bit w j)) (sym was) p.0, p.1)),
        )

pub taken_out : (old other new : Signature) (i : ℕ) → min (length old) (length other) ≤ i → TakesOut old other i new → (m : ℕ) → Has new m ↔ (Has old m × (Has other m → ⊥))
taken_out old other new i end t m = elim (cases_lt (m / 64) i) [
  | inl low ↦ t.done (m / 64) (m % 64) low (omega arith)
  | inr high ↦ (
      let e = t.rest (m / 64) high in (
        λ h. let o : Has old m = subst (λ (w : ℕ). IsTrue (has_bit w (m % 64))) e h in
            let l = number_in old m o in (o, λ p. let r = number_in other m p in omega (arith, end, high, l, r)),
        λ p. subst (λ (w : ℕ). IsTrue (has_bit w (m % 64))) (sym e) p.0,
      ))
]

-- ---- a number in common
pub common_number : (a b : Signature) (i : ℕ) → (j : ℕ) × (j < 64) × IsTrue (has_bit (get_or a i 0) j) × IsTrue (has_bit (get_or b i 0) j) → (n : ℕ) × Has a n × Has b n
common_number a b i p =
    let low = p.1 in
    let q : i ≡ (64 * i + p.0) / 64 = omega (arith, low) in
    let r : p.0 ≡ (64 * i + p.0) % 64 = omega (arith, low) in
    let to : (words : Signature) → IsTrue (has_bit (get_or words i 0) p.0) → Has words (64 * i + p.0) = λ words h.
    subst (λ (m : ℕ). IsTrue (has_bit (get_or words m 0) ((64 * i + p.0) % 64))) q (subst (λ (m : ℕ). IsTrue (has_bit (get_or words i 0) m)) r h)
    in (64 * i + p.0, to a p.2, to b p.3)

pub no_common_more : (a b : Signature) (i : ℕ) → ((n : ℕ) → n / 64 < i → Has a n → Has b n → ⊥) → ((j : ℕ) → IsTrue (has_bit (get_or a i 0) j) → IsTrue (has_bit (get_or b i 0) j) → ⊥)
    → (n : ℕ) → n / 64 < i + 1 → Has a n → Has b n → ⊥
no_common_more a b i before here n low p q = elim (cases_lt (n / 64) i) [
  | inl less ↦ before n less p q
  | inr more ↦ (let at : n / 64 ≡ i = omega (arith, low, more) in
      here (n % 64) (subst (λ (m : ℕ). IsTrue (has_bit (get_or a m 0) (n % 64))) at p) (subst (λ (m : ℕ). IsTrue (has_bit (get_or b m 0) (n % 64))) at q))
]
