-- Exponents of at most 64.
use Rattle.std.proofs.Common.{◌≡◌, ◌≢◌, ℕ, ◌+◌, ◌<◌, ◌≤◌, refl, ap, ◌∙◌, arith, inl, inr, eq-eqb, Option, Some, None}
use Rattle.std.specs.Prelude.{◌==◌, if◌then◌else◌, IsNone, IsSome, ◌↔◌}
use Rattle.std.specs.List.{range_with_len, sum_by}
use Rattle.std.proofs.lemmas.Bool.{cases_eq, cases_lt, ne_eqb}
use Rattle.std.proofs.lemmas.List.Sums.{sum_by-le-sum_by}
use Rattle.git_algebra.specs.Exponents.{Exponents, exponent, exponents_by, one, times, variable_power, degree}
use Rattle.git_algebra.proofs.Monomials.{exponent-by, exponent_past, exponent-one, exponent-times, degree_sum, exponent_same, exponent_other}
use Rattle.git_lemmas.proofs.Options.{some_unless_none}

exponent_within : (i e : ℕ) → exponent (variable_power i e) i ≤ e
exponent_within i e = elim (cases_lt i 17) [
  | inl within ↦ omega (arith, exponent_same i e within)
  | inr past ↦ omega (arith, exponent_past (variable_power i e) i past)
]

-- ---- exponents of at most 64

pub one_small : (i : ℕ) → exponent one i ≤ 64
one_small i = omega (arith, exponent-one i)

pub raised_small : (m : Exponents) (place e : ℕ) → ((i : ℕ) → exponent m i ≤ 64) → exponent m place + e ≤ 64 → (i : ℕ) → exponent (times m (variable_power place e)) i ≤ 64
raised_small m place e small h i = elim (cases_eq place i) [
  | inl here ↦ omega (arith, exponent-times m (variable_power place e) i, exponent_within place e, ap (λ k. exponent (variable_power place e) k) here, ap (exponent m) here, h)
  | inr there ↦ omega (arith, exponent-times m (variable_power place e) i, exponent_other place e i there, small i)
]

constant_sum : sum_by (λ (i : ℕ). 64) (range_with_len 0 17) ≡ 1088
constant_sum = refl

pub degree_small : (a : Exponents) → ((i : ℕ) → exponent a i ≤ 64) → degree a ≤ 1088
degree_small a small =
    let all : sum_by (exponent a) (range_with_len 0 17) ≤ sum_by (λ (i : ℕ). 64) (range_with_len 0 17) = sum_by-le-sum_by (exponent a) (λ (i : ℕ). 64) (range_with_len 0 17) small in
    omega (arith, all, degree_sum a, constant_sum)

-- the product of one power more has no degree above the limit of monomials
pub raised_fits : (o : Option Exponents) (m v : Exponents) (place e : ℕ) → IsNone o ↔ (67108864 < degree (times m v)) → v ≡ variable_power place e
    → ((i : ℕ) → exponent m i ≤ 64) → exponent m place + e ≤ 64 → IsSome o
raised_fits o m v place e none is small h = some_unless_none o (λ n.
    let large : 67108864 < degree (times m v) = none.0 n in
    let low : degree (times m (variable_power place e)) ≤ 1088 = degree_small (times m (variable_power place e)) (raised_small m place e small h) in
    omega (arith, large, low, ap (λ a. degree (times m a)) is))
