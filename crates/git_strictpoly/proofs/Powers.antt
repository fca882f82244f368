-- What is read as the powers of a term is how they are printed, and they are those of their product.
use Rattle.std.proofs.Common.{◌≡◌, ◌≢◌, ℕ, zero, suc, ◌+◌, ◌<◌, ◌≤◌, inl, inr, Bool, true, false, cond, List, [], ◌∷◌, ◌++◌, length, map, get_or, Ok, refl, sym, ap, ◌∙◌, subst, append_assoc, arith, eq-eqb}
use Rattle.std.specs.Prelude.{nat_le, ◌==◌}
use Rattle.std.proofs.lemmas.Bool.{cases_eq, ne_eqb}
use Rattle.std.specs.List.{range_with_len, sum_by}
use Rattle.std.proofs.lemmas.Bool.Decides.{nat_tests}
use Rattle.std.proofs.lemmas.List.Sums.{sum_by-cons}
use Rattle.git_lines.specs.declared.fault.FormKind.TheVariants.{Range, Syntax}
use Rattle.git_lines.specs.Reading.{◌>>=◌}
use Rattle.git_lines.proofs.Exact.{bind_ok, ok_is}
use Rattle.git_algebra.specs.Exponents.{Exponents, exponent, variable_power, degree}
use Rattle.git_algebra.proofs.Monomials.{exponent-one, exponent-times, degree-one, degree-times, degree-by, exponent_same, exponent_other}
use Rattle.git_polytext.specs.Terms.{product_of}
use Rattle.git_polytext.specs.Printing.{after_stars, powers_from, powers_of, variable_text, power_text}
use Rattle.git_polytext.proofs.PowersBack.{powers_make}
use Rattle.git_strictpoly.specs.Strict.{guard, begins, after_first, variable_front, exponent_front, power_front, with_power, powers_after}
use Rattle.git_strictpoly.specs.Laws.{FitsMonomial}
use Rattle.git_strictpoly.proofs.Fronts.{guard_is, guard_again, le_is, le_again, begins_is}
use Rattle.git_strictpoly.proofs.Variables.{IsPlace, variable_is, variable_again, exponent_text, exponent_is, exponent_again, IsQuiet}
use Rattle.git_strictpoly.specs.declared.limits.TheConstants.{TEXT_DEGREE}

-- powers of variables there are, whose places ascend from a least one on
abbrev pub Ascend : ℕ → ℕ → List (ℕ × ℕ) → Type 0
Ascend r low [] = Unit {0}
Ascend r low (v ∷ vs) = (low ≤ v.0) × IsPlace r v.0 × (1 ≤ v.1) × Ascend r (v.0 + 1) vs

abbrev pub total : List (ℕ × ℕ) → ℕ
total [] = 0
total (v ∷ vs) = v.1 + total vs

-- ---- one power

pub power_is : (r low d : ℕ) → r ≤ 16 → (s : List ℕ) (v : ℕ × ℕ) (t : List ℕ) → power_front r low d s ≡ Ok (v, t)
    → (s ≡ power_text v ++ t) × (low ≤ v.0) × IsPlace r v.0 × (1 ≤ v.1) × (d + v.1 ≤ TEXT_DEGREE)
unfolding power_front
power_is r low d small s v t e =
    let a = bind_ok (variable_front r s) _ (v, t) e in
    let b = bind_ok (guard (nat_le low a.0.0) Syntax) _ (v, t) a.2 in
    let c = bind_ok (exponent_front a.0.1) _ (v, t) b.2 in
    let g = bind_ok (guard (nat_le (d + c.0.0) TEXT_DEGREE) Range) _ (v, t) c.2 in
    let p = ok_is ((a.0.0, c.0.0), c.0.1) (v, t) g.2 in
    let x = variable_is r small s a.0.0 a.0.1 a.1 in
    let y = exponent_is a.0.1 c.0.0 c.0.1 c.1 in
    let text : s ≡ power_text (a.0.0, c.0.0) ++ c.0.1 = x.0 ∙ ap (λ q. variable_text a.0.0 ++ q) y.0 ∙ sym (append_assoc (variable_text a.0.0) (exponent_text c.0.0) c.0.1) in
    subst (λ (q : (ℕ × ℕ) × List ℕ). (s ≡ power_text q.0 ++ q.1) × (low ≤ q.0.0) × IsPlace r q.0.0 × (1 ≤ q.0.1) × (d + q.0.1 ≤ TEXT_DEGREE)) p
    (text, le_is low a.0.0 (guard_is _ Syntax b.0 b.1), x.1, y.1, le_is (d + c.0.0) TEXT_DEGREE (guard_is _ Range g.0 g.1))

pub place_small : (r i : ℕ) → r ≤ 16 → IsPlace r i → i ≤ 16
place_small r i small (inl h) = omega (arith, small, h)
place_small r i small (inr h) = omega (arith, h)

pub power_again : (r low d : ℕ) (v : ℕ × ℕ) (t : List ℕ) → v.0 ≤ 16 → low ≤ v.0 → IsPlace r v.0 → 1 ≤ v.1 → d + v.1 ≤ TEXT_DEGREE → IsQuiet t
    → power_front r low d (power_text v ++ t) ≡ Ok (v, t)
unfolding power_front
power_again r low d v t place later known some fits quiet =
    let text : power_text v ++ t ≡ variable_text v.0 ++ (exponent_text v.1 ++ t) = append_assoc (variable_text v.0) (exponent_text v.1) t in
    let x : variable_front r (power_text v ++ t) ≡ Ok (v.0, exponent_text v.1 ++ t) = ap (variable_front r) text ∙ variable_again r v.0 (exponent_text v.1 ++ t) known place in
    let y = exponent_again v.1 t some (omega (arith, fits)) quiet in
    let g = guard_again (nat_le low v.0) Syntax (le_again low v.0 later) in
    let h = guard_again (nat_le (d + v.1) TEXT_DEGREE) Range (le_again (d + v.1) TEXT_DEGREE fits) in
    rw (x, g, y, h) refl

-- ---- powers after stars

-- what powers after stars tell of the bytes that they are read from
abbrev PowersAre : ℕ → ℕ → ℕ → List ℕ → List (ℕ × ℕ) → List ℕ → Type 0
PowersAre r low d s vs t = (s ≡ after_stars (map power_text vs) ++ t) × Ascend r low vs × (d + total vs ≤ TEXT_DEGREE)

powers_are_by : (n r low d : ℕ) → r ≤ 16 → d ≤ TEXT_DEGREE
    → ((low d : ℕ) → d ≤ TEXT_DEGREE → (s : List ℕ) (vs : List (ℕ × ℕ)) (t : List ℕ) → powers_after n r low d s ≡ Ok (vs, t) → PowersAre r low d s vs t)
    → (s : List ℕ) (vs : List (ℕ × ℕ)) (t : List ℕ) (test : Bool) → begins 42 s ≡ test
    → cond test (power_front r low d (after_first s) >>= λ p. (powers_after n r (p.0.0 + 1) (d + p.0.1) p.1 >>= with_power p.0)) (Ok ([], s)) ≡ Ok (vs, t)
    → PowersAre r low d s vs t
powers_are_by n r low d small fits ih s vs t true b e =
    let p = bind_ok (power_front r low d (after_first s)) _ (vs, t) e in
    let m = bind_ok (powers_after n r (p.0.0.0 + 1) (d + p.0.0.1) p.0.1) _ (vs, t) p.2 in
    let q = ok_is (p.0.0 ∷ m.0.0, m.0.1) (vs, t) m.2 in
    let x = power_is r low d small (after_first s) p.0.0 p.0.1 p.1 in
    let y = ih (p.0.0.0 + 1) (d + p.0.0.1) x.4 p.0.1 m.0.0 m.0.1 m.1 in
    let text : s ≡ after_stars (map power_text (p.0.0 ∷ m.0.0)) ++ m.0.1 =
    begins_is 42 s b ∙ ap (λ z. 42 ∷ z) (x.0 ∙ ap (λ z. power_text p.0.0 ++ z) y.0 ∙ sym (append_assoc (power_text p.0.0) (after_stars (map power_text m.0.0)) m.0.1)) in
    subst (λ (z : List (ℕ × ℕ) × List ℕ). PowersAre r low d s z.0 z.1) q (text, (x.1, x.2, x.3, y.1), omega (arith, y.2))
powers_are_by n r low d small fits ih s vs t false b e =
    let q = ok_is ([], s) (vs, t) e in
    subst (λ (z : List (ℕ × ℕ) × List ℕ). PowersAre r low d s z.0 z.1) q (refl, tt, omega (arith, fits))

pub powers_are : (n r : ℕ) → r ≤ 16 → (low d : ℕ) → d ≤ TEXT_DEGREE → (s : List ℕ) (vs : List (ℕ × ℕ)) (t : List ℕ) → powers_after n r low d s ≡ Ok (vs, t)
    → (s ≡ after_stars (map power_text vs) ++ t) × Ascend r low vs × (d + total vs ≤ TEXT_DEGREE)
unfolding powers_after
powers_are zero r small low d fits s vs t e = absurd (cc e)
powers_are (suc n) r small low d fits s vs t e = powers_are_by n r low d small fits (powers_are n r small) s vs t (begins 42 s) refl e

-- what follows the powers begins with no digit, no caret and no star
pub record IsEnd (t : List ℕ) : Type 0 where
  pub quiet : IsQuiet t
  pub no_star : begins 42 t ≡ false

pub stars_quiet : (vs : List (ℕ × ℕ)) (t : List ℕ) → IsEnd t → IsQuiet (after_stars (map power_text vs) ++ t)
stars_quiet [] t end = end.quiet
stars_quiet (v ∷ vs) t end = record { no_digit = refl; no_caret = refl }

pub powers_again : (n r low d : ℕ) → r ≤ 16 → (vs : List (ℕ × ℕ)) (t : List ℕ) → length vs < n → Ascend r low vs → d + total vs ≤ TEXT_DEGREE → IsEnd t
    → powers_after n r low d (after_stars (map power_text vs) ++ t) ≡ Ok (vs, t)
unfolding powers_after
powers_again zero r low d small vs t few up fits end = absurd (omega (arith, few))
powers_again (suc n) r low d small [] t few up fits end = ap (λ (b : Bool). cond b (power_front r low d (after_first t) >>= λ p. (powers_after n r (p.0.0 + 1) (d + p.0.1) p.1 >>= with_power p.0)) (Ok ([], t))) end.no_star
powers_again (suc n) r low d small (v ∷ vs) t few up fits end =
    let rest = after_stars (map power_text vs) ++ t in
    let text : (power_text v ++ after_stars (map power_text vs)) ++ t ≡ power_text v ++ rest = append_assoc (power_text v) (after_stars (map power_text vs)) t in
    let x : power_front r low d ((power_text v ++ after_stars (map power_text vs)) ++ t) ≡ Ok (v, rest) = ap (power_front r low d) text ∙ power_again r low d v rest (place_small r v.0 small up.1) up.0 up.1 up.2 (omega (arith, fits)) (stars_quiet vs t end) in
    let y = powers_again n r (v.0 + 1) (d + v.1) small vs t (omega (arith, few)) up.3 (omega (arith, fits)) end in
    rw (x, y) refl

-- ---- the product

none_below : (r low : ℕ) (vs : List (ℕ × ℕ)) → Ascend r low vs → (k : ℕ) → k < low → exponent (product_of vs) k ≡ 0
none_below r low [] up k h = exponent-one k
none_below r low (v ∷ vs) up k h = omega (
  arith,
  exponent-times (variable_power v.0 v.1) (product_of vs) k,
  exponent_other v.0 v.1 k (λ same. omega (arith, same, h, up.0)),
  none_below r (v.0 + 1) vs up.3 k (omega (arith, h, up.0)),
)

-- the list has the exponents of the product from a place on
abbrev Tells : ℕ → List ℕ → List (ℕ × ℕ) → Type 0
Tells i es vs = (k : ℕ) → k < length es → get_or es k 0 ≡ exponent (product_of vs) (i + k)

head_at : (i e : ℕ) (es : List ℕ) (vs : List (ℕ × ℕ)) → Tells i (e ∷ es) vs → e ≡ exponent (product_of vs) i
head_at i e es vs h = let here : i + 0 ≡ i = omega arith in h 0 (omega arith) ∙ ap (exponent (product_of vs)) here

tail_at : (i e : ℕ) (es : List ℕ) (vs : List (ℕ × ℕ)) → Tells i (e ∷ es) vs → Tells (i + 1) es vs
tail_at i e es vs h k lt = let at : i + suc k ≡ i + 1 + k = omega arith in h (suc k) (omega (arith, lt)) ∙ ap (exponent (product_of vs)) at

first_exponent : (r : ℕ) (v : ℕ × ℕ) (vs : List (ℕ × ℕ)) (i : ℕ) → i < 17 → Ascend r (i + 1) vs → v.0 ≡ i → exponent (product_of (v ∷ vs)) i ≡ v.1
first_exponent r v vs i lt up same = omega (
  arith,
  exponent-times (variable_power v.0 v.1) (product_of vs) i,
  ap (λ k. exponent (variable_power k v.1) i) same,
  exponent_same i v.1 lt,
  none_below r (i + 1) vs up i (omega arith),
)

-- past its place a first power counts for nothing
rest_at : (r : ℕ) (v : ℕ × ℕ) (vs : List (ℕ × ℕ)) (i : ℕ) (es : List ℕ) → v.0 ≡ i → Tells (i + 1) es (v ∷ vs) → Tells (i + 1) es vs
rest_at r v vs i es same h k lt = omega (
  arith,
  h k lt,
  exponent-times (variable_power v.0 v.1) (product_of vs) (i + 1 + k),
  exponent_other v.0 v.1 (i + 1 + k) (λ q. omega (arith, q, same)),
)

raise_low : (r i : ℕ) (v : ℕ × ℕ) (vs : List (ℕ × ℕ)) → Ascend r i (v ∷ vs) → v.0 ≢ i → Ascend r (i + 1) (v ∷ vs)
raise_low r i v vs up other = (not_same (up.0) other, up.1, up.2, up.3)
  where
    not_same : i ≤ v.0 → v.0 ≢ i → i + 1 ≤ v.0
    not_same le ne = elim (cases_eq v.0 i) [
      | inl here ↦ absurd (ne here)
      | inr there ↦ omega (arith, le, there)
    ]

pub powers_back : (r : ℕ) → r ≤ 16 → (i : ℕ) (es : List ℕ) (vs : List (ℕ × ℕ)) → i + length es ≡ 17 → Ascend r i vs → Tells i es vs → powers_from i es ≡ vs
powers_back r small i [] [] long up h = refl
powers_back r small i [] (v ∷ vs) long up h = absurd (omega (arith, long, up.0, place_small r v.0 small up.1))
powers_back r small i (zero ∷ es) [] long up h = powers_back r small (i + 1) es [] (omega (arith, long)) tt (tail_at i zero es [] h)
powers_back r small i (zero ∷ es) (v ∷ vs) long up h = elim (cases_eq v.0 i) [
  | inl here ↦ absurd (omega (arith, head_at i zero es (v ∷ vs) h, first_exponent r v vs i (omega (arith, long)) (subst (λ k. Ascend r (k + 1) vs) here up.3) here, up.2))
  | inr there ↦ powers_back r small (i + 1) es (v ∷ vs) (omega (arith, long)) (raise_low r i v vs up there) (tail_at i zero es (v ∷ vs) h)
]
powers_back r small i (suc e ∷ es) [] long up h = absurd (omega (arith, head_at i (suc e) es [] h, exponent-one i))
powers_back r small i (suc e ∷ es) (v ∷ vs) long up h = elim (cases_eq v.0 i) [
  | inl here ↦
      let more : Ascend r (i + 1) vs = subst (λ k. Ascend r (k + 1) vs) here up.3 in
      let same : suc e ≡ v.1 = head_at i (suc e) es (v ∷ vs) h ∙ first_exponent r v vs i (omega (arith, long)) more here in
      let rest = powers_back r small (i + 1) es vs (omega (arith, long)) more (rest_at r v vs i es here (tail_at i (suc e) es (v ∷ vs) h)) in
      λ j. (sym here j, same j) ∷ rest j
  | inr there ↦ absurd (omega (arith, head_at i (suc e) es (v ∷ vs) h, none_below r (i + 1) (v ∷ vs) (raise_low r i v vs up there) i (omega arith)))
]

pub powers_of_product : (r : ℕ) → r ≤ 16 → (vs : List (ℕ × ℕ)) → Ascend r 0 vs → powers_of (product_of vs) ≡ vs
powers_of_product r small vs up = powers_back r small 0 (product_of vs).list vs (omega (arith, (product_of vs).long)) up (λ k h. let at : k ≡ 0 + k = omega arith in ap (exponent (product_of vs)) at)

-- ---- degrees

nothing_past : (i e a n : ℕ) → i < a → sum_by (λ k. cond (i == k) e 0) (range_with_len a n) ≡ 0
nothing_past i e a zero h = refl
nothing_past i e a (suc n) h =
    let here : cond (i == a) e 0 ≡ 0 = ap (λ b. cond b e 0) (ne_eqb i a (λ q. omega (arith, q, h))) in
    omega (arith, sum_by-cons (λ k. cond (i == k) e 0) a (range_with_len (a + 1) n), here, nothing_past i e (a + 1) n (omega (arith, h)))

one_of_them : (i e a n : ℕ) → a ≤ i → i < a + n → sum_by (λ k. cond (i == k) e 0) (range_with_len a n) ≡ e
one_of_them i e a zero low h = absurd (omega (arith, low, h))
one_of_them i e a (suc n) low h = elim (cases_eq i a) [
  | inl same ↦
      let here : cond (i == a) e 0 ≡ e = ap (λ b. cond b e 0) (eq-eqb i a same) in
      omega (arith, sum_by-cons (λ k. cond (i == k) e 0) a (range_with_len (a + 1) n), here, nothing_past i e (a + 1) n (omega (arith, same)))
  | inr other ↦
      let here : cond (i == a) e 0 ≡ 0 = ap (λ b. cond b e 0) (ne_eqb i a other) in
      omega (arith, sum_by-cons (λ k. cond (i == k) e 0) a (range_with_len (a + 1) n), here, one_of_them i e (a + 1) n (omega (arith, low, other)) (omega (arith, h)))
]

pub degree_power : (i e : ℕ) → i ≤ 16 → degree (variable_power i e) ≡ e
unfolding variable_power
degree_power i e h = degree-by (λ k. cond (i == k) e 0) ∙ one_of_them i e 0 17 (omega arith) (omega (arith, h))

pub degree_total : (r low : ℕ) → r ≤ 16 → (vs : List (ℕ × ℕ)) → Ascend r low vs → degree (product_of vs) ≡ total vs
degree_total r low small [] up = degree-one
degree_total r low small (v ∷ vs) up = omega (
  arith,
  degree-times (variable_power v.0 v.1) (product_of vs),
  degree_power v.0 v.1 (place_small r v.0 small up.1),
  degree_total r (v.0 + 1) small vs up.3,
)

-- ---- the monomials that fit

no_other : (r low : ℕ) (vs : List (ℕ × ℕ)) → Ascend r low vs → (i : ℕ) → r ≤ i → i < 16 → exponent (product_of vs) i ≡ 0
no_other r low [] up i a b = exponent-one i
no_other r low (v ∷ vs) up i a b = omega (
  arith,
  exponent-times (variable_power v.0 v.1) (product_of vs) i,
  exponent_other v.0 v.1 i (λ same. apart same up.1),
  no_other r (v.0 + 1) vs up.3 i a b,
)
  where
    apart : v.0 ≡ i → IsPlace r v.0 → ⊥
    apart same (inl h) = omega (arith, same, h, a)
    apart same (inr h) = omega (arith, same, h, b)

pub product_fits : (r : ℕ) → r ≤ 16 → (vs : List (ℕ × ℕ)) → Ascend r 0 vs → total vs ≤ TEXT_DEGREE → FitsMonomial r (product_of vs)
product_fits r small vs up few = record { variables = no_other r 0 vs up; small = omega (arith, few, degree_total r 0 small vs up) }

ascend_less : (r low : ℕ) (vs : List (ℕ × ℕ)) → Ascend r (low + 1) vs → Ascend r low vs
ascend_less r low [] up = tt
ascend_less r low (v ∷ vs) up = (omega (arith, up.0), up.1, up.2, up.3)

ascend_from : (r i : ℕ) (es : List ℕ) → ((k : ℕ) → k < length es → 0 < get_or es k 0 → IsPlace r (i + k)) → Ascend r i (powers_from i es)
ascend_from r i [] each = tt
ascend_from r i (zero ∷ es) each = ascend_less r i (powers_from (i + 1) es) (ascend_from r (i + 1) es (λ k h some.
    let at : i + suc k ≡ i + 1 + k = omega arith in
    subst (IsPlace r) at (each (suc k) (omega (arith, h)) some)))
ascend_from r i (suc e ∷ es) each =
    let here : i + 0 ≡ i = omega arith in (
      omega arith,
      subst (IsPlace r) here (each 0 (omega arith) (omega arith)),
      omega arith,
      ascend_from r (i + 1) es (λ k h some.
          let at : i + suc k ≡ i + 1 + k = omega arith in
          subst (IsPlace r) at (each (suc k) (omega (arith, h)) some)),
    )

place_of : (r : ℕ) (m : Exponents) → FitsMonomial r m → (k : ℕ) → k < length m.list → 0 < exponent m k → IsPlace r (0 + k)
place_of r m fits k h some = by (nat_le 16 k) refl (nat_le r k) refl
  where
    by : (a : Bool) → nat_le 16 k ≡ a → (b : Bool) → nat_le r k ≡ b → IsPlace r (0 + k)
    by true ea b eb = let high : 16 ≤ k = le_is 16 k ea in inr (omega (arith, high, h, m.long))
    by false ea true eb = let low : k < 16 = grind (arith, nat_tests, ea) in absurd (omega (arith, some, fits.variables k (le_is r k eb) low))
    by false ea false eb = let low : k < r = grind (arith, nat_tests, eb) in inl (omega (arith, low))

pub powers_ascend : (r : ℕ) (m : Exponents) → FitsMonomial r m → Ascend r 0 (powers_of m)
powers_ascend r m fits = ascend_from r 0 m.list (place_of r m fits)

pub powers_total : (r : ℕ) → r ≤ 16 → (m : Exponents) → FitsMonomial r m → total (powers_of m) ≡ degree m
powers_total r small m fits = sym (ap degree (powers_make m) ∙ degree_total r 0 small (powers_of m) (powers_ascend r m fits))

powers_few : (i : ℕ) (es : List ℕ) → length (powers_from i es) ≤ length es
powers_few i [] = omega arith
powers_few i (zero ∷ es) = omega (arith, powers_few (i + 1) es)
powers_few i (suc e ∷ es) = omega (arith, powers_few (i + 1) es)

pub seventeen : (m : Exponents) → length (powers_of m) ≤ 17
seventeen m = omega (arith, powers_few 0 m.list, m.long)
