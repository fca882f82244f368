-- The inverse of each number other than 0, and that no product of such numbers is 0.
use Rattle.std.proofs.Common.{zero, suc, ◌≡◌, ℕ, ◌+◌, ◌*◌, ◌-◌, ◌/◌, ◌%◌, ◌<◌, ◌≤◌, cond, ltb, sym, ap, ◌∙◌, arith, inl, inr}
use borrow.Author.Tests.{lt-ltb, le-ltb}
use Rattle.std.proofs.lemmas.Bool.{cases_lt}
use Rattle.std.proofs.Math.Nat.{div-add-mod, add-mul-mod_self_right, mul_assoc, mod-eq_of_lt}
use Rattle.std.proofs.lemmas.Nat.{mul-mod, mul-mod_first, mul-mod_second}
use Rattle.git_field.specs.Inverse.{search_from}
pub use Rattle.git_field.specs.Inverse.{inverse_of}
use Rattle.git_field.proofs.Divisors.{no_divisor}

left-complement : (left p q r : ℕ) → left * q + r ≡ p → 0 < left → q ≤ p → left * (p - q) ≡ r + (left - 1) * p
left-complement left p q r split positive q_le =
    let d : ℕ = p - q in
    let l : ℕ = left - 1 in
    let e1 : left * (d + q) ≡ left * p = ap (λ n. left * n) (omega arith) in
    let e2 : (l + 1) * p ≡ left * p = ap (λ n. n * p) (omega arith) in
    omega (arith, e1, e2, split)

-- one step of the search for an inverse: the factor that gives `left` becomes one that gives the rest of p by `left`
pub inverse_step : (start factor left p q r : ℕ) → left * q + r ≡ p → r < p → 0 < left → q ≤ p → start * factor % p ≡ left → start * (factor * (p - q) % p) % p ≡ r
inverse_step start factor left p q r split below positive q_le same =
    mul-mod_second start (factor * (p - q)) p
    ∙ ap (λ n. n % p) (sym (mul_assoc start factor (p - q)))
    ∙ sym (mul-mod_first (start * factor) (p - q) p)
    ∙ ap (λ n. (n * (p - q)) % p) same
    ∙ ap (λ n. n % p) (left-complement left p q r split positive q_le)
    ∙ add-mul-mod_self_right r (left - 1) p
    ∙ mod-eq_of_lt below

product-search_from : (k start left factor : ℕ) → left ≤ k → 0 < left → left < 32003 → start * factor % 32003 ≡ left → start * search_from k left factor % 32003 ≡ 1
unfolding search_from
product-search_from zero start left factor within positive below same = absurd (omega arith)
product-search_from (suc k) start left factor within positive below same = elim (cases_lt 1 left) [
  | inl more ↦
      rw lt-ltb
      (product-search_from k start (32003 % left) (factor * (32003 - 32003 / left) % 32003) (omega arith) (no_divisor left more below) (omega arith)
      (inverse_step start factor left 32003 (32003 / left) (32003 % left) (div-add-mod 32003 left) (omega arith) positive (omega arith) same))
  | inr done ↦ rw le-ltb (same ∙ omega arith)
]

pub product-inverse_of : (n : ℕ) → 0 < n → n < 32003 → n * inverse_of n % 32003 ≡ 1
unfolding inverse_of
product-inverse_of n positive below = product-search_from n n n 1 (omega arith) positive below (omega arith)

pub positive-product : (a b : ℕ) → 0 < a → a < 32003 → 0 < b → b < 32003 → 0 < (a * b) % 32003
positive-product a b some_a below_a some_b below_b = elim (cases_lt 0 ((a * b) % 32003)) [
  | inl some ↦ some
  | inr none ↦
      let zero_left : (a * b * inverse_of b) % 32003 ≡ 0 =
      sym (mul-mod_first (a * b) (inverse_of b) 32003) ∙ ap (λ n. (n * inverse_of b) % 32003) (let e : (a * b) % 32003 ≡ 0 = omega arith in e) ∙ omega arith in
      let a_left : (a * b * inverse_of b) % 32003 ≡ a =
      ap (λ n. n % 32003) (mul_assoc a b (inverse_of b)) ∙ sym (mul-mod_second a (b * inverse_of b) 32003) ∙ ap (λ n. (a * n) % 32003) (product-inverse_of b some_b below_b) ∙ omega arith in
      absurd (omega (arith, zero_left, a_left))
]

-- the same of numbers of any size
pub positive-product_mod : (a b : ℕ) → 0 < a % 32003 → 0 < b % 32003 → 0 < (a * b) % 32003
positive-product_mod a b some_a some_b = rw (mul-mod a b 32003) (positive-product (a % 32003) (b % 32003) some_a (omega arith) some_b (omega arith))

pub inverse_mod : (a : ℕ) → 0 < a % 32003 → (a * inverse_of (a % 32003)) % 32003 ≡ 1
inverse_mod a some = sym (mul-mod_first a (inverse_of (a % 32003)) 32003) ∙ product-inverse_of (a % 32003) some (omega arith)
