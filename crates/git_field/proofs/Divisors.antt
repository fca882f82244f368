-- 32003 is prime: no number from 2 to 178 divides it, and 179 * 179 is above it.
use Rattle.std.proofs.Common.{zero, suc, ◌≡◌, ℕ, ◌+◌, ◌*◌, ◌-◌, ◌/◌, ◌%◌, ◌<◌, ◌≤◌, Bool, true, false, ltb, refl, arith, inl, inr}
use mathlib.Core.Bool.{◌&&◌}
use Rattle.std.proofs.lemmas.Bool.{cases_lt}
use Rattle.std.proofs.Math.Nat.{mul-mod_right}
use Rattle.std.proofs.lemmas.Nat.{div-add-mod', mul-le}
use borrow.Author.Tests.{ltb-true}

-- whether none of 2 to k + 1 divides n
abbrev none_divides : ℕ → ℕ → Bool
none_divides n zero = true
none_divides n (suc k) = ltb 0 (n % (k + 2)) && none_divides n k

both_true : (a b : Bool) → a && b ≡ true → (a ≡ true) × (b ≡ true)
both_true true b h = (refl, h)
both_true false b h = cc

rest_from_test : (n k d : ℕ) → none_divides n k ≡ true → d < k → 0 < n % (d + 2)
rest_from_test n zero d test below = absurd (omega arith)
rest_from_test n (suc k) d test below =
    let parts : (ltb 0 (n % (k + 2)) ≡ true) × (none_divides n k ≡ true) = both_true _ _ test in
    elim (cases_lt d k) [
      | inl less ↦ rest_from_test n k d parts.1 less
      | inr more ↦ let at : d ≡ k = omega arith in rw at (ltb-true 0 (n % (k + 2)) parts.0)
    ]

no_small_divisor : (d : ℕ) → 1 < d → d < 179 → 0 < 32003 % d
no_small_divisor d above_one below =
    let e : (d - 2) + 2 ≡ d = omega arith in
    let lt : d - 2 < 177 = omega arith in
    rw e at (rest_from_test 32003 177 (d - 2) refl lt)

-- a divisor from 179 on would have a cofactor below 179
no_large_divisor : (q d : ℕ) → 179 ≤ d → d < 32003 → q * d ≡ 32003 → 0 < 32003 % q
no_large_divisor q d large below exact =
    let q_below : q < 179 = elim (cases_lt q 179) [
      | inl less ↦ less
      | inr more ↦ absurd (omega (arith, exact, mul-le 179 179 q d more large))
    ] in
    let q_above : 1 < q = elim (cases_lt 1 q) [
      | inl more ↦ more
      | inr less ↦ absurd (omega (arith, exact, mul-le q d 1 d less (omega arith)))
    ] in
    no_small_divisor q q_above q_below

pub no_divisor : (d : ℕ) → 1 < d → d < 32003 → 0 < 32003 % d
no_divisor d above_one below =
    elim (cases_lt d 179) [
      | inl small ↦ no_small_divisor d above_one small
      | inr large ↦ elim (cases_lt 0 (32003 % d)) [
        | inl rest ↦ rest
        | inr none ↦
            let exact : 32003 / d * d ≡ 32003 = omega (arith, div-add-mod' 32003 d) in
            let some : 0 < 32003 % (32003 / d) = no_large_divisor (32003 / d) d large below exact in
            let multiple : (32003 / d * d) % (32003 / d) ≡ 0 = mul-mod_right (32003 / d) d in
            let nothing : 32003 % (32003 / d) ≡ 0 = rw exact at multiple in
            absurd (omega (arith, some, nothing))
      ]
    ]
