-- Powers of the product of a face's variables, variable by variable.
use Rattle.std.proofs.Common.{zero, suc, ℕ, ◌+◌, ◌*◌, ◌^◌, ◌<◌, ◌≤◌, ◌≡◌, refl, Bool, true, false, sym, ◌∙◌, ap, arith, inl, inr, eq-eqb, add-one}
use Rattle.std.specs.Prelude.{◌==◌, if◌then◌else◌}
use Rattle.std.specs.List.{range_with_len, sum_by}
use Rattle.std.proofs.lemmas.Bool.{cases_eq, cases_lt, ne_eqb}
use Rattle.std.proofs.lemmas.List.Sums.{sum_by-cons}
use Rattle.git_algebra.specs.Exponents.{Exponents, exponent, one, times, power, variable_power, degree}
use Rattle.git_algebra.proofs.Monomials.{same_exponents, exponent-by, exponent-one, exponent-times, exponent-power, degree-times, degree_sum, exponent_same, exponent_other}
use Rattle.git_ideals.specs.Faces.{face_monomial}
use Rattle.git_bits.specs.Bits.{has_bit}
use Rattle.git_bits.proofs.Bits.{bit_clear}
use Rattle.git_ideals.proofs.FaceProofs.{exponent-face}

abbrev pub with_variable : Bool → ℕ → ℕ → Exponents → Exponents
with_variable true i e m = times m (variable_power i e)
with_variable false i e m = m

-- the power, of the variables at places below the number
abbrev pub power_below : ℕ → ℕ → ℕ → Exponents
power_below mask e zero = one
power_below mask e (suc i) = with_variable (has_bit mask i) i e (power_below mask e i)

exponent-variable : (i e k : ℕ) → k < 17 → exponent (variable_power i e) k ≡ (if i == k then e else 0)
unfolding variable_power
exponent-variable i e k h = exponent-by (λ j. if i == j then e else 0) k h

past_there : (mask e n k : ℕ) → k < 17 → n ≤ k → exponent (power_below mask e n) k ≡ 0
past_there mask e zero k h past = exponent-one k
past_there mask e (suc i) k h past = by (has_bit mask i) (past_there mask e i k h (omega arith))
  where
    by : (b : Bool) → exponent (power_below mask e i) k ≡ 0 → exponent (with_variable b i e (power_below mask e i)) k ≡ 0
    by true ih = omega (arith, exponent-times (power_below mask e i) (variable_power i e) k, ih, exponent_other i e k (λ same. omega arith))
    by false ih = ih

there : (mask e n k : ℕ) → k < 17 → k < n → exponent (power_below mask e n) k ≡ (if has_bit mask k then e else 0)
there mask e zero k h within = absurd (omega arith)
there mask e (suc i) k h within = elim (cases_eq k i) [
  | inl here ↦ at_end here
  | inr other ↦ before (has_bit mask i) (λ same. other (sym same)) (there mask e i k h (omega arith))
]
  where
    last : (b : Bool) → i < 17 → exponent (with_variable b i e (power_below mask e i)) i ≡ (if b then e else 0)
    last true low = omega (arith, exponent-times (power_below mask e i) (variable_power i e) i, past_there mask e i i low (omega arith), exponent_same i e low)
    last false low = past_there mask e i i low (omega arith)

    at_end : k ≡ i → exponent (with_variable (has_bit mask i) i e (power_below mask e i)) k ≡ (if has_bit mask k then e else 0)
    at_end here = ap (exponent (with_variable (has_bit mask i) i e (power_below mask e i))) here ∙ last (has_bit mask i) (omega (arith, here, h)) ∙ ap (λ j. if has_bit mask j then e else 0) (sym here)

    before : (b : Bool) → (i ≡ k → ⊥) → exponent (power_below mask e i) k ≡ (if has_bit mask k then e else 0) → exponent (with_variable b i e (power_below mask e i)) k ≡ (if has_bit mask k then e else 0)
    before true other ih = omega (arith, exponent-times (power_below mask e i) (variable_power i e) k, exponent_other i e k other) ∙ ih
    before false other ih = ih

-- with the variables at all places below 16 it is the power of the product
pub power_whole : (mask e : ℕ) → mask < 65536 → power_below mask e 16 ≡ power (face_monomial mask) e
power_whole mask e small = same_exponents _ _ (λ k h. elim (cases_lt k 16) [
  | inl within ↦ there mask e 16 k h within ∙ as_product (has_bit mask k) ∙ sym (exponent-power (face_monomial mask) e k ∙ ap (λ n. e * n) (exponent-face mask k h))
  | inr past ↦ at_last k h past
])
  where
    as_product : (b : Bool) → (if b then e else 0) ≡ e * (if b then 1 else 0)
    as_product true = omega arith
    as_product false = omega arith

    none : has_bit mask 16 ≡ false
    none = bit_clear mask 16 (λ one. omega (arith, one, small))

    at_last : (k : ℕ) → k < 17 → 16 ≤ k → exponent (power_below mask e 16) k ≡ exponent (power (face_monomial mask) e) k
    at_last k h past =
        let here : k ≡ 16 = omega arith in
        let left : exponent (power_below mask e 16) k ≡ 0 = past_there mask e 16 k h past in
        let face : exponent (face_monomial mask) 16 ≡ 0 = exponent-face mask 16 (omega arith) ∙ (λ t. if none t then 1 else 0) in
        let right : exponent (power (face_monomial mask) e) k ≡ 0 = ap (exponent (power (face_monomial mask) e)) here ∙ exponent-power (face_monomial mask) e 16 ∙ ap (λ n. e * n) face ∙ omega arith in
        left ∙ sym right

each_small : (mask e n k : ℕ) → k < 17 → exponent (power_below mask e n) k ≤ e
each_small mask e n k h = elim (cases_lt k n) [
  | inl within ↦ omega (arith, there mask e n k h within, at_most (has_bit mask k))
  | inr past ↦ omega (arith, past_there mask e n k h past)
]
  where
    at_most : (b : Bool) → (if b then e else 0) ≤ e
    at_most true = omega arith
    at_most false = omega arith

pub sum_small : (f : ℕ → ℕ) (e a n : ℕ) → ((k : ℕ) → a ≤ k → k < a + n → f k ≤ e) → sum_by f (range_with_len a n) ≤ n * e
sum_small f e a zero each = omega arith
sum_small f e a (suc n) each = omega (arith, sum_by-cons f a (range_with_len (a + 1) n), each a (omega arith) (omega arith), sum_small f e (a + 1) n (λ k low high. each k (omega arith) (omega arith)))

-- its degree is at most seventeen times the exponent
pub degree_small : (mask e n : ℕ) → degree (power_below mask e n) ≤ 17 * e
degree_small mask e n = omega (arith, degree_sum (power_below mask e n), sum_small (exponent (power_below mask e n)) e 0 17 (λ k low high. each_small mask e n k (omega arith)))

-- one variable more
pub with_one : (mask e i : ℕ) → has_bit mask i ≡ true → times (power_below mask e i) (variable_power i e) ≡ power_below mask e (i + 1)
with_one mask e i set = (λ t. with_variable (sym set t) i e (power_below mask e i)) ∙ ap (power_below mask e) (sym (add-one i))

pub without_one : (mask e i : ℕ) → has_bit mask i ≡ false → power_below mask e i ≡ power_below mask e (i + 1)
without_one mask e i clear = (λ t. with_variable (sym clear t) i e (power_below mask e i)) ∙ ap (power_below mask e) (sym (add-one i))

each_variable_small : (i e k : ℕ) → k < 17 → exponent (variable_power i e) k ≤ e
each_variable_small i e k h = omega (arith, exponent-variable i e k h, at_most (i == k))
  where
    at_most : (b : Bool) → (if b then e else 0) ≤ e
    at_most true = omega arith
    at_most false = omega arith

variable_small : (i e : ℕ) → degree (variable_power i e) ≤ 17 * e
variable_small i e = omega (arith, degree_sum (variable_power i e), sum_small (exponent (variable_power i e)) e 0 17 (λ k low high. each_variable_small i e k (omega arith)))

-- the product of a variable with the product of the face's variables has a small degree
pub clearing_small : (mask : ℕ) → mask < 65536 → degree (times (variable_power 16 1) (power (face_monomial mask) 1)) ≤ 34
clearing_small mask small = omega (arith, degree-times (variable_power 16 1) (power (face_monomial mask) 1), variable_small 16 1, ap degree (power_whole mask 1 small), degree_small mask 1 16)

-- the first power is the product itself
pub power_one : (a : Exponents) → power a 1 ≡ a
power_one a = same_exponents _ _ (λ i h. exponent-power a 1 i ∙ omega arith)
