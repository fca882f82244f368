-- The laws of bits.
use Rattle.std.proofs.Common.{◌≡◌, ◌⊎◌, ◌∙◌, ℕ, zero, suc, ◌+◌, ◌*◌, ◌<◌, ◌≤◌, ◌^◌, ◌%◌, ◌/◌, ◌==◌, false, IsTrue, min, inl, inr, refl, sym, ap, arith}
use Rattle.std.proofs.Math.Nat.{div-one, div-div-eq-div-mul, pow-suc}
use Rattle.std.proofs.lemmas.Bool.{eq-eqb, eqb-true, ne_eqb}
use Rattle.std.specs.Int.Bits.{and_step}
use Rattle.std.specs.Int.RustNames.{bit_and}
use Rattle.std.specs.Prelude.{◌↔◌}
use Rattle.git_bits.specs.Bits.{has_bit, IsWithin}

pub odd_or_even : (m : ℕ) → (m % 2 ≡ 1) ⊎ (m % 2 ≡ 0)
odd_or_even zero = inr refl
odd_or_even (suc m) = elim (odd_or_even m) [ inl e ↦ inr (omega (arith, e)) | inr e ↦ inl (omega (arith, e)) ]

-- ---- by division
power_more : (i : ℕ) → 2 * 2 ^ i ≡ 2 ^ suc i
power_more i = let e = pow-suc 2 i in omega (arith, e)

pub bit_of_part : (n i : ℕ) → has_bit n i ≡ ((n / 2 ^ i) % 2 == 1)
bit_of_part n zero = ap (λ m. m % 2 == 1) (sym (div-one n))
bit_of_part n (suc i) = bit_of_part (n / 2) i ∙ ap (λ m. m % 2 == 1) (div-div-eq-div-mul n 2 (2 ^ i) ∙ ap (λ k. n / k) (power_more i))

pub bit_clear : (n i : ℕ) → ((n / 2 ^ i) % 2 ≡ 1 → ⊥) → has_bit n i ≡ false
bit_clear n i even = bit_of_part n i ∙ ne_eqb ((n / 2 ^ i) % 2) 1 even

-- ---- numbers by their bits
same_rest : (m n : ℕ) → (m % 2 == 1) ≡ (n % 2 == 1) → m % 2 ≡ n % 2
same_rest m n e = elim (odd_or_even m) [
  | inl a ↦ elim (odd_or_even n) [
    | inl b ↦ a ∙ sym b
    | inr b ↦ absurd (let f = sym (eq-eqb (m % 2) 1 a) ∙ e ∙ ne_eqb (n % 2) 1 (λ h. omega (arith, b, h)) in cc f)
  ]
  | inr a ↦ elim (odd_or_even n) [
    | inl b ↦ absurd (let f = sym (eq-eqb (n % 2) 1 b) ∙ sym e ∙ ne_eqb (m % 2) 1 (λ h. omega (arith, a, h)) in cc f)
    | inr b ↦ a ∙ sym b
  ]
]

below : (bound m n : ℕ) → m ≤ bound → n ≤ bound → ((i : ℕ) → has_bit m i ≡ has_bit n i) → m ≡ n
below zero m n a b same = omega (arith, a, b)
below (suc bound) m n a b same =
    let low = same_rest m n (same 0) in
    let high = below bound (m / 2) (n / 2) (omega (arith, a)) (omega (arith, b)) (λ i. same (suc i)) in omega (arith, low, high)

pub numbers_by_bits : (m n : ℕ) → ((i : ℕ) → has_bit m i ≡ has_bit n i) → m ≡ n
numbers_by_bits m n same = below (m + n) m n (omega arith) (omega arith) same

pub no_high_bit : (n i : ℕ) → n < 2 ^ i → IsTrue (has_bit n i) → ⊥
no_high_bit n zero small set = let odd = eqb-true (n % 2) 1 set in omega (arith, small, odd)
no_high_bit n (suc i) small set = no_high_bit (n / 2) i (let e = power_more i in omega (arith, small, e)) set

-- ---- bits within others
pub within_half : (m n : ℕ) → IsWithin m n → IsWithin (m / 2) (n / 2)
within_half m n e = let s = and_step m n in omega (arith, e, s)

pub within_odd : (m n : ℕ) → IsWithin m n → m % 2 ≡ 1 → n % 2 ≡ 1
within_odd m n e odd = elim (odd_or_even n) [
  | inl o ↦ o
  | inr even ↦ absurd (let s = and_step m n ∙ (λ i. bit_and (m / 2) (n / 2) * 2 + min (odd i) (even i)) in omega (arith, e, s, odd))
]

-- one bit in front of all
pub within_with : (m n : ℕ) → IsWithin m (n / 2) → n % 2 ≡ 1 → IsWithin (2 * m + 1) n
within_with m n e odd =
    let half : (2 * m + 1) / 2 ≡ m = omega arith in let low : (2 * m + 1) % 2 ≡ 1 = omega arith in
    and_step (2 * m + 1) n ∙ (λ i. bit_and (half i) (n / 2) * 2 + min (low i) (odd i)) ∙ ap (λ (x : ℕ). x * 2 + 1) e ∙ omega arith

pub within_skip : (m n : ℕ) → IsWithin m (n / 2) → IsWithin (2 * m) n
within_skip m n e =
    let half : (2 * m) / 2 ≡ m = omega arith in let low : (2 * m) % 2 ≡ 0 = omega arith in
    and_step (2 * m) n ∙ (λ i. bit_and (half i) (n / 2) * 2 + min (low i) (n % 2)) ∙ ap (λ (x : ℕ). x * 2 + min 0 (n % 2)) e ∙ omega arith

within_to : (m n : ℕ) → IsWithin m n → (i : ℕ) → IsTrue (has_bit m i) → IsTrue (has_bit n i)
within_to m n w zero set = eq-eqb (n % 2) 1 (within_odd m n w (eqb-true (m % 2) 1 set))
within_to m n w (suc i) set = within_to (m / 2) (n / 2) (within_half m n w) i set

within_from : (bound m n : ℕ) → m ≤ bound → ((i : ℕ) → IsTrue (has_bit m i) → IsTrue (has_bit n i)) → IsWithin m n
within_from zero m n small each = let e : m ≡ 0 = omega (arith, small) in (λ i. bit_and (e i) n) ∙ sym e
within_from (suc bound) m n small each =
    let high : IsWithin (m / 2) (n / 2) = within_from bound (m / 2) (n / 2) (omega (arith, small)) (λ i. each (suc i)) in
    elim (odd_or_even m) [
      | inl odd ↦ (let other = eqb-true (n % 2) 1 (each 0 (eq-eqb (m % 2) 1 odd)) in
          and_step m n ∙ (λ i. high i * 2 + min (odd i) (other i)) ∙ omega (arith, odd))
      | inr even ↦ and_step m n ∙ (λ i. high i * 2 + min (even i) (n % 2)) ∙ omega (arith, even)
    ]

pub within_by_bits : (m n : ℕ) → IsWithin m n ↔ ((i : ℕ) → IsTrue (has_bit m i) → IsTrue (has_bit n i))
within_by_bits m n = (within_to m n, λ each. within_from m m n (omega arith) each)
