-- The exponent of the extra variable, and monomials without it.
use Rattle.std.proofs.Common.{ℕ, ◌+◌, ◌<◌, ◌≡◌, ap, arith, ◌∙◌, cond, inl, inr}
use Rattle.std.specs.Prelude.{◌==◌, if◌then◌else◌}
use Rattle.std.proofs.lemmas.Bool.{cases_eq, ne_eqb}
use Rattle.git_algebra.specs.Exponents.{Exponents, exponent, times, one, variable_power}
use Rattle.git_algebra.proofs.Monomials.{same_exponents, exponent-by, exponent-times, exponent-one}
use Rattle.git_ideals.specs.Ideals.{y}
use Rattle.git_ideals.specs.Extra.{extra, without_extra}

pub without_there : (a : Exponents) → extra (without_extra a) ≡ 0
unfolding without_extra
without_there a = exponent-by (λ i. if i == 16 then 0 else exponent a i) 16 (omega arith)

pub without_elsewhere : (a : Exponents) (i : ℕ) → i < 17 → (i ≡ 16 → ⊥) → exponent (without_extra a) i ≡ exponent a i
unfolding without_extra
without_elsewhere a i h apart = exponent-by (λ k. if k == 16 then 0 else exponent a k) i h ∙ (λ j. cond (ne_eqb i 16 apart j) 0 (exponent a i))

pub extra-y : extra y ≡ 1
unfolding variable_power
extra-y = exponent-by (λ k. if 16 == k then 1 else 0) 16 (omega arith)

pub y_elsewhere : (i : ℕ) → i < 17 → (i ≡ 16 → ⊥) → exponent y i ≡ 0
unfolding variable_power
y_elsewhere i h apart = exponent-by (λ k. if 16 == k then 1 else 0) i h ∙ (λ j. cond (ne_eqb 16 i (λ e. apart (omega (arith, e))) j) 1 0)

pub extra-one : extra one ≡ 0
extra-one = exponent-one 16

pub extra-times : (a b : Exponents) → extra (times a b) ≡ extra a + extra b
extra-times a b = exponent-times a b 16

-- by places: that of the extra variable, and the others
by_places : (a b : Exponents) → extra a ≡ extra b → ((i : ℕ) → i < 17 → (i ≡ 16 → ⊥) → exponent a i ≡ exponent b i) → a ≡ b
by_places a b last others = same_exponents a b (λ i h. elim (cases_eq i 16) [
  | inl here ↦ ap (exponent a) here ∙ last ∙ ap (exponent b) (let back : 16 ≡ i = omega (arith, here) in back)
  | inr there ↦ others i h there
])

pub without_extra-y : without_extra y ≡ one
without_extra-y = by_places _ _ (omega (arith, without_there y, extra-one)) (λ i h apart. omega (arith, without_elsewhere y i h apart, y_elsewhere i h apart, exponent-one i))

pub without_extra-times : (a b : Exponents) → without_extra (times a b) ≡ times (without_extra a) (without_extra b)
without_extra-times a b = by_places _ _
    (omega (arith, without_there (times a b), extra-times (without_extra a) (without_extra b), without_there a, without_there b))
    (λ i h apart. omega (arith, without_elsewhere (times a b) i h apart, exponent-times a b i, exponent-times (without_extra a) (without_extra b) i, without_elsewhere a i h apart, without_elsewhere b i h apart))

pub without_extra_same : (a : Exponents) → extra a ≡ 0 → without_extra a ≡ a
without_extra_same a e = by_places _ _ (omega (arith, without_there a, e)) (λ i h apart. without_elsewhere a i h apart)
