-- The steps of the code.
use Rattle.std.proofs.Common.{◌≡◌, ℕ, zero, suc, ◌+◌, ◌-◌, ◌<◌, ◌≤◌, true, false, List, [], ◌∷◌, length, get_or, take, drop, inl, inr, Ok, refl, sym, ap, ◌∙◌, arith}
use Rattle.std.proofs.lemmas.Bool.{cases_lt}
use Rattle.git_lines.specs.Numbers.{is_digit}
use Rattle.git_algebra.specs.Exponents.{Exponents, variable_power, times, degree}
use Rattle.git_algebra.proofs.Monomials.{degree-times}
use Rattle.git_polytext.specs.Terms.{product_of}
use Rattle.git_strictpoly.specs.Strict.{begins, after_first, digits_front, after_digits, power_front, powers_after}
use Rattle.git_strictpoly.proofs.Powers.{powers_are, degree_power, degree_total}
use Rattle.git_strictpoly.specs.declared.limits.TheConstants.{TEXT_DEGREE}

abbrev pub EndsAt : List ℕ → ℕ → Type 0
EndsAt bs n = n < length bs → is_digit (get_or bs n 0) ≡ false

abbrev pub AreDigits : List ℕ → ℕ → Type 0
AreDigits bs n = (i : ℕ) → i < n → is_digit (get_or bs i 0) ≡ true

pub digits_end : (bs : List ℕ) (n : ℕ) → n ≤ length bs → AreDigits bs n → EndsAt bs n → (take n bs ≡ digits_front bs) × (drop n bs ≡ after_digits bs)
digits_end [] zero within all end = (refl, refl)
digits_end [] (suc n) within all end = absurd (omega (arith, within))
digits_end (b ∷ bs) zero within all end =
    let no : is_digit b ≡ false = end (omega arith) in
    (rw no refl, rw no refl)
digits_end (b ∷ bs) (suc n) within all end =
    let yes : is_digit b ≡ true = all 0 (omega arith) in
    let more = digits_end bs n (omega (arith, within)) (λ i h. all (suc i) (omega (arith, h))) (λ h. end (omega (arith, h))) in
    (rw yes (ap (λ x. b ∷ x) more.0), rw yes more.1)

pub one_more : (bs : List ℕ) (n : ℕ) → AreDigits bs n → is_digit (get_or bs n 0) ≡ true → AreDigits bs (n + 1)
one_more bs n all here i h = elim (cases_lt i n) [
  | inl before ↦ all i before
  | inr last ↦ (let same : n ≡ i = omega (arith, h, last) in ap (λ k. is_digit (get_or bs k 0)) (sym same) ∙ here)
]

pub powers_stop : (n r low d : ℕ) (s : List ℕ) → 0 < n → begins 42 s ≡ false → powers_after n r low d s ≡ Ok ([], s)
unfolding powers_after
powers_stop zero r low d s some none = absurd (omega (arith, some))
powers_stop (suc n) r low d s some none = rw none refl

pub powers_go : (n r low d : ℕ) (s : List ℕ) (v : ℕ × ℕ) (u : List ℕ) (vs : List (ℕ × ℕ)) (t : List ℕ) → 0 < n → begins 42 s ≡ true → power_front r low d (after_first s) ≡ Ok (v, u)
    → powers_after (n - 1) r (v.0 + 1) (d + v.1) u ≡ Ok (vs, t) → powers_after n r low d s ≡ Ok (v ∷ vs, t)
unfolding powers_after
powers_go zero r low d s v u vs t some star power more = absurd (omega (arith, some))
powers_go (suc n) r low d s v u vs t some star power more =
    let same : suc n - 1 ≡ n = omega arith in
    let rest : powers_after n r (v.0 + 1) (d + v.1) u ≡ Ok (vs, t) = ap (λ k. powers_after k r (v.0 + 1) (d + v.1) u) (sym same) ∙ more in
    rw (star, power, rest) refl

pub small_product : (r : ℕ) → r ≤ 16 → (n low d e place : ℕ) (s : List ℕ) (vs : List (ℕ × ℕ)) (t : List ℕ) (first others : Exponents) → place ≤ 16 → e ≤ d → d ≤ TEXT_DEGREE
    → powers_after n r low d s ≡ Ok (vs, t) → first ≡ variable_power place e → others ≡ product_of vs → degree (times first others) ≤ TEXT_DEGREE
small_product r small n low d e place s vs t first others within part fits read hf ho =
    let p = powers_are n r small low d fits s vs t read in
    omega (arith, part, degree-times first others, ap degree hf, degree_power place e within, ap degree ho, degree_total r low small vs p.1, p.2)
