-- The powers of a monomial, in the order of their places, make it again.
use Rattle.std.proofs.Common.{◌≡◌, ◌≢◌, ℕ, zero, suc, ◌+◌, ◌<◌, ◌≤◌, List, [], ◌∷◌, length, get_or, sym, ap, ◌∙◌, subst, arith}
use Rattle.std.specs.List.{AllByRecursion}
use Rattle.git_algebra.specs.Exponents.{Exponents, exponent, variable_power, degree}
use Rattle.git_algebra.proofs.Monomials.{same_exponents, exponent-one, exponent-times, degree-one, exponent_same, exponent_other}
use Rattle.git_polytext.specs.Terms.{product_of}
use Rattle.git_polytext.specs.Printing.{powers_from, powers_of}

-- what holds of each place with an exponent holds of each power
pub each_power : (P : ℕ × ℕ → Type 0) (i : ℕ) (es : List ℕ) → ((k : ℕ) → k < length es → 0 < get_or es k 0 → P (i + k, get_or es k 0)) → AllByRecursion P (powers_from i es)
each_power P i [] each = tt
each_power P i (zero ∷ es) each = each_power P (i + 1) es (λ k h some.
    let at : i + suc k ≡ i + 1 + k = omega arith in
    subst (λ n. P (n, get_or es k 0)) at (each (suc k) (omega arith) some))
each_power P i (suc e ∷ es) each =
    let here : i + 0 ≡ i = omega arith in (
      subst (λ n. P (n, suc e)) here (each 0 (omega arith) (omega arith)),
      each_power P (i + 1) es (λ k h some.
          let at : i + suc k ≡ i + 1 + k = omega arith in
          subst (λ n. P (n, get_or es k 0)) at (each (suc k) (omega arith) some)),
    )

none_before : (i : ℕ) (es : List ℕ) (k : ℕ) → k < i → exponent (product_of (powers_from i es)) k ≡ 0
none_before i [] k h = exponent-one k
none_before i (zero ∷ es) k h = none_before (i + 1) es k (omega arith)
none_before i (suc e ∷ es) k h = omega (
  arith,
  exponent-times (variable_power i (suc e)) (product_of (powers_from (i + 1) es)) k,
  exponent_other i (suc e) k (λ same. omega (arith, same, h)),
  none_before (i + 1) es k (omega arith),
)

each_from : (i : ℕ) (es : List ℕ) (k : ℕ) → i + length es ≤ 17 → exponent (product_of (powers_from i es)) (i + k) ≡ get_or es k 0
each_from i [] k within = exponent-one (i + k)
each_from i (zero ∷ es) zero within = none_before (i + 1) es (i + 0) (omega arith)
each_from i (zero ∷ es) (suc k) within =
    let at : i + suc k ≡ i + 1 + k = omega arith in
    ap (exponent (product_of (powers_from (i + 1) es))) at ∙ each_from (i + 1) es k (omega arith)
each_from i (suc e ∷ es) zero within =
    let here : i + 0 ≡ i = omega arith in
    ap (exponent (product_of (powers_from i (suc e ∷ es)))) here
    ∙ omega (
      arith,
      exponent-times (variable_power i (suc e)) (product_of (powers_from (i + 1) es)) i,
      exponent_same i (suc e) (omega arith),
      none_before (i + 1) es i (omega arith),
    )
each_from i (suc e ∷ es) (suc k) within =
    let at : i + suc k ≡ i + 1 + k = omega arith in
    omega (
      arith,
      exponent-times (variable_power i (suc e)) (product_of (powers_from (i + 1) es)) (i + suc k),
      exponent_other i (suc e) (i + suc k) (λ same. omega (arith, same)),
      ap (exponent (product_of (powers_from (i + 1) es))) at,
      each_from (i + 1) es k (omega arith),
    )

pub powers_make : (m : Exponents) → m ≡ product_of (powers_of m)
powers_make m = same_exponents m (product_of (powers_of m)) (λ k h.
    let at : 0 + k ≡ k = omega arith in
    sym (each_from 0 m.list k (omega (arith, m.long))) ∙ ap (exponent (product_of (powers_of m))) at)

-- a monomial other than 1 has a power
pub some_power : (m : Exponents) → degree m ≢ 0 → powers_of m ≢ []
some_power m some none = some (ap degree (powers_make m ∙ ap product_of none) ∙ degree-one)
