-- What is read as a monomial with its size is how a term is printed.
use Rattle.std.proofs.Common.{◌≡◌, ◌≢◌, ℕ, ◌+◌, ◌<◌, ◌≤◌, Bool, true, false, cond, List, [], ◌∷◌, ◌++◌, length, map, get_or, ◌&&◌, ◌||◌, Ok, refl, sym, ap, ◌∙◌, subst, append_assoc, arith}
use Rattle.std.specs.Prelude.{nat_le, ◌==◌, not, codes}
use Rattle.std.specs.List.{list_all}
use Rattle.std.specs.Fmt.{decimal}
use Rattle.std.proofs.lemmas.Bool.{and_parts}
use Rattle.std.proofs.lemmas.Bool.Decides.{nat_tests}
use Rattle.std.proofs.lemmas.Fmt.{length-decimal-le, decimal_nonempty, first_decimal}
use Rattle.git_lines.specs.declared.fault.FormKind.TheVariants.{Syntax}
use Rattle.git_lines.specs.Numbers.{is_digit}
use Rattle.git_lines.proofs.Exact.{bind_ok, ok_is}
use Rattle.git_lines.proofs.NumberLemmas.{decimal_digits}
use Rattle.git_algebra.specs.Exponents.{Exponents, degree}
use Rattle.git_polytext.specs.Terms.{product_of}
use Rattle.git_polytext.specs.Printing.{after_stars, starred, powers_of, variable_text, power_text, factor_texts}
use Rattle.git_polytext.proofs.PowersBack.{powers_make, some_power}
use Rattle.git_strictpoly.specs.Strict.{guard, begins, starts_digit, after_digits, number_front, power_front, powers_after, sized_front, unsized_front, term_front}
use Rattle.git_strictpoly.specs.Laws.{FitsMonomial}
use Rattle.git_strictpoly.proofs.Fronts.{guard_is, le_is, le_again, both, number_is, number_again}
use Rattle.git_strictpoly.proofs.Powers.{Ascend, total, IsEnd, stars_quiet, place_small, power_is, power_again, powers_are, powers_again, powers_of_product, product_fits, powers_ascend, powers_total, degree_total, seventeen}
use Rattle.git_strictpoly.specs.declared.limits.TheConstants.{TEXT_DEGREE, LARGEST_SIZE, POWER_STEPS}

-- the size is left out
abbrev pub hidden : ℕ → Exponents → Bool
hidden n m = n == 1 && not (degree m == 0)

abbrev pub size_text : ℕ → Exponents → List ℕ
size_text n m = starred (factor_texts n m)

shown_text : (n : ℕ) (m : Exponents) → hidden n m ≡ false → size_text n m ≡ decimal n ++ after_stars (map power_text (powers_of m))
shown_text n m h = ap (λ (b : Bool). starred (cond b (map power_text (powers_of m)) (decimal n ∷ map power_text (powers_of m)))) h

hidden_text : (n : ℕ) (m : Exponents) → hidden n m ≡ true → size_text n m ≡ starred (map power_text (powers_of m))
hidden_text n m h = ap (λ (b : Bool). starred (cond b (map power_text (powers_of m)) (decimal n ∷ map power_text (powers_of m)))) h

and_false : (a : Bool) → (a && false) ≡ false
and_false true = refl
and_false false = refl

nothing_hidden : (n : ℕ) (m : Exponents) → degree m ≡ 0 → hidden n m ≡ false
nothing_hidden n m h = let z : (degree m == 0) ≡ true = grind (arith, nat_tests, h) in rw z (and_false (n == 1))

large_shown : (n : ℕ) (m : Exponents) → 2 ≤ n → hidden n m ≡ false
large_shown n m h = let z : (n == 1) ≡ false = grind (arith, nat_tests) in rw z refl

is_hidden : (n : ℕ) (m : Exponents) → n ≡ 1 → 1 ≤ degree m → hidden n m ≡ true
is_hidden n m e h =
    let a : (n == 1) ≡ true = grind (arith, nat_tests) in
    let b : (degree m == 0) ≡ false = grind (arith, nat_tests) in
    rw (a, b) refl

-- ---- a size that is there

two_from : (b : Bool) (n : ℕ) → (not b || nat_le 2 n) ≡ true → b ≡ true → 2 ≤ n
two_from true n h e = le_is 2 n h
two_from false n h e = absurd (cc e)

shown_size : (n : ℕ) (m : Exponents) (vs : List (ℕ × ℕ)) (rest t : List ℕ) → (not (begins 42 rest) || nat_le 2 n) ≡ true → rest ≡ after_stars (map power_text vs) ++ t → degree m ≡ total vs → hidden n m ≡ false
shown_size n m [] rest t test text d = nothing_hidden n m d
shown_size n m (v ∷ vs) rest t test text d = large_shown n m (two_from (begins 42 rest) n test (ap (begins 42) text))

-- what a monomial with its size tells of the bytes that it is read from
abbrev pub TermIs : ℕ → List ℕ → Exponents → ℕ → List ℕ → Type 0
TermIs r s m n t = (s ≡ size_text n m ++ t) × (1 ≤ n) × (n ≤ LARGEST_SIZE) × FitsMonomial r m

sized_is : (r : ℕ) → r ≤ 16 → (s : List ℕ) (m : Exponents) (n : ℕ) (t : List ℕ) → sized_front r s ≡ Ok ((m, n), t) → TermIs r s m n t
unfolding sized_front
sized_is r small s m n t e =
    let a = bind_ok (number_front 5 1 s) _ ((m, n), t) e in
    let g = bind_ok (guard (nat_le a.0 LARGEST_SIZE && (not (begins 42 (after_digits s)) || nat_le 2 a.0)) Syntax) _ ((m, n), t) a.2 in
    let p = bind_ok (powers_after POWER_STEPS r 0 0 (after_digits s)) _ ((m, n), t) g.2 in
    let q = ok_is ((product_of p.0.0, a.0), p.0.1) ((m, n), t) p.2 in
    let number = number_is 5 1 s a.0 a.1 in
    let tests = and_parts (nat_le a.0 LARGEST_SIZE) (not (begins 42 (after_digits s)) || nat_le 2 a.0) (guard_is _ Syntax g.0 g.1) in
    let powers = powers_are POWER_STEPS r small 0 0 (omega arith) (after_digits s) p.0.0 p.0.1 p.1 in
    made a.0 p.0.0 p.0.1 q number.0 number.1 (le_is a.0 LARGEST_SIZE tests.0) tests.1 powers.0 powers.1 (omega (arith, powers.2))
  where
    made : (k : ℕ) (vs : List (ℕ × ℕ)) (u : List ℕ) → ◌≡◌ {A = (Exponents × ℕ) × List ℕ} ((product_of vs, k), u) ((m, n), t) → s ≡ decimal k ++ after_digits s → 1 ≤ k → k ≤ LARGEST_SIZE → (not (begins 42 (after_digits s)) || nat_le 2 k) ≡ true
        → after_digits s ≡ after_stars (map power_text vs) ++ u → Ascend r 0 vs → total vs ≤ TEXT_DEGREE → TermIs r s m n t
    made k vs u q text some high test rest up few =
        let own = product_of vs in
        let shown = shown_text k own (shown_size k own vs (after_digits s) u test rest (degree_total r 0 small vs up)) in
        let back : size_text k own ≡ decimal k ++ after_stars (map power_text vs) = shown ∙ ap (λ ws. decimal k ++ after_stars (map power_text ws)) (powers_of_product r small vs up) in
        let whole : s ≡ size_text k own ++ u = text ∙ ap (λ x. decimal k ++ x) rest ∙ sym (append_assoc (decimal k) (after_stars (map power_text vs)) u) ∙ ap (λ x. x ++ u) (sym back) in
        subst (λ (z : (Exponents × ℕ) × List ℕ). TermIs r s z.0.0 z.0.1 z.1) q (whole, some, high, product_fits r small vs up few)

-- ---- powers alone

unsized_is : (r : ℕ) → r ≤ 16 → (s : List ℕ) (m : Exponents) (n : ℕ) (t : List ℕ) → unsized_front r s ≡ Ok ((m, n), t) → TermIs r s m n t
unfolding unsized_front
unsized_is r small s m n t e =
    let a = bind_ok (power_front r 0 0 s) _ ((m, n), t) e in
    let p = bind_ok (powers_after POWER_STEPS r (a.0.0.0 + 1) a.0.0.1 a.0.1) _ ((m, n), t) a.2 in
    let q = ok_is ((product_of (a.0.0 ∷ p.0.0), 1), p.0.1) ((m, n), t) p.2 in
    let power = power_is r 0 0 small s a.0.0 a.0.1 a.1 in
    let powers = powers_are POWER_STEPS r small (a.0.0.0 + 1) a.0.0.1 (omega (arith, power.4)) a.0.1 p.0.0 p.0.1 p.1 in
    made a.0.0 p.0.0 p.0.1 q (power.0 ∙ ap (λ x. power_text a.0.0 ++ x) powers.0) (power.1, power.2, power.3, powers.1) powers.2
  where
    made : (v : ℕ × ℕ) (vs : List (ℕ × ℕ)) (u : List ℕ) → ◌≡◌ {A = (Exponents × ℕ) × List ℕ} ((product_of (v ∷ vs), 1), u) ((m, n), t) → s ≡ power_text v ++ (after_stars (map power_text vs) ++ u)
        → Ascend r 0 (v ∷ vs) → v.1 + total vs ≤ TEXT_DEGREE → TermIs r s m n t
    made v vs u q text up few =
        let own = product_of (v ∷ vs) in
        let large : 1 ≤ degree own = omega (arith, degree_total r 0 small (v ∷ vs) up, up.2) in
        let back : size_text 1 own ≡ power_text v ++ after_stars (map power_text vs) = hidden_text 1 own (is_hidden 1 own refl large) ∙ ap (λ ws. starred (map power_text ws)) (powers_of_product r small (v ∷ vs) up) in
        let whole : s ≡ size_text 1 own ++ u = text ∙ sym (append_assoc (power_text v) (after_stars (map power_text vs)) u) ∙ ap (λ x. x ++ u) (sym back) in
        subst (λ (z : (Exponents × ℕ) × List ℕ). TermIs r s z.0.0 z.0.1 z.1) q (whole, omega arith, omega arith, product_fits r small (v ∷ vs) up few)

term_by : (r : ℕ) → r ≤ 16 → (s : List ℕ) (m : Exponents) (n : ℕ) (t : List ℕ) (test : Bool) → cond test (sized_front r s) (unsized_front r s) ≡ Ok ((m, n), t) → TermIs r s m n t
term_by r small s m n t true e = sized_is r small s m n t e
term_by r small s m n t false e = unsized_is r small s m n t e

pub term_is : (r : ℕ) → r ≤ 16 → (s : List ℕ) (m : Exponents) (n : ℕ) (t : List ℕ) → term_front r s ≡ Ok ((m, n), t) → TermIs r s m n t
term_is r small s m n t e = term_by r small s m n t (starts_digit s) e

-- ---- a printed term is read

starts_all : (ds t : List ℕ) → 0 < length ds → list_all is_digit ds ≡ true → starts_digit (ds ++ t) ≡ true
starts_all [] t some h = absurd (omega (arith, some))
starts_all (d ∷ ds) t some h = (and_parts (is_digit d) (list_all is_digit ds) h).0

variable_starts : (i : ℕ) (t : List ℕ) → (starts_digit (variable_text i ++ t) ≡ false) × (begins 48 (variable_text i ++ t) ≡ false) × (begins 45 (variable_text i ++ t) ≡ false)
variable_starts i t = by (i == 16)
  where
    by : (test : Bool) → (starts_digit (cond test (codes "y") (codes "T(" ++ decimal (i + 1) ++ codes ")") ++ t) ≡ false) × (begins 48 (cond test (codes "y") (codes "T(" ++ decimal (i + 1) ++ codes ")") ++ t) ≡ false)
        × (begins 45 (cond test (codes "y") (codes "T(" ++ decimal (i + 1) ++ codes ")") ++ t) ≡ false)
    by true = (refl, refl, refl)
    by false = (refl, refl, refl)

alone_or_large : (n : ℕ) (m : Exponents) (r : ℕ) → r ≤ 16 → 1 ≤ n → (vs : List (ℕ × ℕ)) (t : List ℕ) → hidden n m ≡ false → degree m ≡ total vs → Ascend r 0 vs → begins 42 t ≡ false → (not (begins 42 (after_stars (map power_text vs) ++ t)) || nat_le 2 n) ≡ true
alone_or_large n m r small some [] t h d up end = rw end refl
alone_or_large n m r small some (v ∷ vs) t h d up end = by (n == 1) refl
  where
    by : (test : Bool) → (n == 1) ≡ test → nat_le 2 n ≡ true
    by true e = let one : n ≡ 1 = grind (arith, nat_tests) in absurd (cc (h, is_hidden n m one (omega (arith, d, up.2))))
    by false e = grind (arith, nat_tests)

sized_again : (r : ℕ) → r ≤ 16 → (m : Exponents) (n : ℕ) (t : List ℕ) → hidden n m ≡ false → 1 ≤ n → n ≤ LARGEST_SIZE → FitsMonomial r m → IsEnd t
    → sized_front r (decimal n ++ (after_stars (map power_text (powers_of m)) ++ t)) ≡ Ok ((m, n), t)
unfolding sized_front
sized_again r small m n t shown some high fits end =
    let vs = powers_of m in
    let rest = after_stars (map power_text vs) ++ t in
    let up = powers_ascend r m fits in
    let sum = powers_total r small m fits in
    let number = number_again 5 1 n rest (omega (arith, high)) (length-decimal-le 5 n (omega arith) (omega (arith, high)) (omega (arith, high))) some (stars_quiet vs t end).no_digit in
    let test : (nat_le n LARGEST_SIZE && (not (begins 42 rest) || nat_le 2 n)) ≡ true = both (nat_le n LARGEST_SIZE) (not (begins 42 rest) || nat_le 2 n) (le_again n LARGEST_SIZE high) (alone_or_large n m r small some vs t shown (sym sum) up end.no_star) in
    let powers = powers_again POWER_STEPS r 0 0 small vs t (omega (arith, seventeen m)) up (omega (arith, sum, fits.small)) end in
    rw (number.0, number.1, test, powers) (ap (λ k. Ok ((k, n), t)) (sym (powers_make m)))

unsized_again : (r : ℕ) → r ≤ 16 → (m : Exponents) (n : ℕ) (t : List ℕ) → n ≡ 1 → (v : ℕ × ℕ) (vs : List (ℕ × ℕ)) → powers_of m ≡ v ∷ vs → FitsMonomial r m → IsEnd t
    → unsized_front r (power_text v ++ (after_stars (map power_text vs) ++ t)) ≡ Ok ((m, n), t)
unfolding unsized_front
unsized_again r small m n t one v vs are fits end =
    let up : Ascend r 0 (v ∷ vs) = subst (Ascend r 0) are (powers_ascend r m fits) in
    let sum : v.1 + total vs ≡ degree m = sym (ap total are) ∙ powers_total r small m fits in
    let long : length vs + 1 ≤ 17 = omega (arith, seventeen m, ap (λ ws. length ws) are) in
    let power = power_again r 0 0 v (after_stars (map power_text vs) ++ t) (place_small r v.0 small up.1) up.0 up.1 up.2 (omega (arith, sum, fits.small)) (stars_quiet vs t end) in
    let powers = powers_again POWER_STEPS r (v.0 + 1) v.1 small vs t (omega (arith, long)) up.3 (omega (arith, sum, fits.small)) end in
    let product : product_of (v ∷ vs) ≡ m = sym (powers_make m ∙ ap product_of are) in
    rw (power, powers) (λ j. Ok ((product j, sym one j), t))

-- the first byte of a term is no zero and no minus
pub record IsBegun (s : List ℕ) : Type 0 where
  pub no_zero : begins 48 s ≡ false
  pub no_minus : begins 45 s ≡ false

above_zero : (ds t : List ℕ) → 48 < get_or ds 0 0 → IsBegun (ds ++ t)
above_zero [] t h = absurd (omega (arith, h))
above_zero (d ∷ ds) t h = let e : 48 < d = h in record { no_zero = grind (arith, nat_tests, e); no_minus = grind (arith, nat_tests, e) }

-- a printed term is read, and begins as one
abbrev pub TermAgain : ℕ → Exponents → ℕ → List ℕ → Type 0
TermAgain r m n t = (term_front r (size_text n m ++ t) ≡ Ok ((m, n), t)) × IsBegun (size_text n m ++ t)

shown_again : (r : ℕ) → r ≤ 16 → (m : Exponents) (n : ℕ) (t : List ℕ) → hidden n m ≡ false → 1 ≤ n → n ≤ LARGEST_SIZE → FitsMonomial r m → IsEnd t → TermAgain r m n t
shown_again r small m n t shown some high fits end =
    let rest = after_stars (map power_text (powers_of m)) ++ t in
    let text : size_text n m ++ t ≡ decimal n ++ rest = ap (λ x. x ++ t) (shown_text n m shown) ∙ append_assoc (decimal n) (after_stars (map power_text (powers_of m))) t in
    let digit = starts_all (decimal n) rest (decimal_nonempty n (omega (arith, high))) (decimal_digits n (omega (arith, high))) in
    let read : term_front r (decimal n ++ rest) ≡ Ok ((m, n), t) = ap (λ b. cond b (sized_front r (decimal n ++ rest)) (unsized_front r (decimal n ++ rest))) digit ∙ sized_again r small m n t shown some high fits end in
    (ap (term_front r) text ∙ read, subst IsBegun (sym text) (above_zero (decimal n) rest (first_decimal n (omega (arith, some)) (omega (arith, high)))))

unshown_again : (r : ℕ) → r ≤ 16 → (m : Exponents) (n : ℕ) (t : List ℕ) → hidden n m ≡ true → n ≡ 1 → (vs : List (ℕ × ℕ)) → powers_of m ≡ vs → vs ≢ [] → FitsMonomial r m → IsEnd t → TermAgain r m n t
unshown_again r small m n t h one [] are some fits end = absurd (some refl)
unshown_again r small m n t h one (v ∷ vs) are some fits end =
    let rest = after_stars (map power_text vs) ++ t in
    let more = (if_text v) ++ rest in
    let text : size_text n m ++ t ≡ power_text v ++ rest = ap (λ x. x ++ t) (hidden_text n m h ∙ ap (λ ws. starred (map power_text ws)) are) ∙ append_assoc (power_text v) (after_stars (map power_text vs)) t in
    let parted : power_text v ++ rest ≡ variable_text v.0 ++ more = append_assoc (variable_text v.0) (if_text v) rest in
    let starts = variable_starts v.0 more in
    let digit : starts_digit (power_text v ++ rest) ≡ false = ap starts_digit parted ∙ starts.0 in
    let read : term_front r (power_text v ++ rest) ≡ Ok ((m, n), t) = ap (λ b. cond b (sized_front r (power_text v ++ rest)) (unsized_front r (power_text v ++ rest))) digit ∙ unsized_again r small m n t one v vs are fits end in
    (ap (term_front r) text ∙ read, subst IsBegun (sym (text ∙ parted)) (record { no_zero = starts.1; no_minus = starts.2 }))
  where
    if_text : ℕ × ℕ → List ℕ
    if_text w = cond (w.1 == 1) [] (codes "^" ++ decimal w.1)

pub term_again : (r : ℕ) → r ≤ 16 → (m : Exponents) (n : ℕ) (t : List ℕ) → 1 ≤ n → n ≤ LARGEST_SIZE → FitsMonomial r m → IsEnd t → TermAgain r m n t
term_again r small m n t some high fits end = by (hidden n m) refl
  where
    by : (test : Bool) → hidden n m ≡ test → TermAgain r m n t
    by true h =
        let p = and_parts (n == 1) (not (degree m == 0)) h in
        let one : n ≡ 1 = grind (arith, nat_tests, p.0) in
        let large : degree m ≢ 0 = λ z. (let w : (degree m == 0) ≡ true = grind (arith, nat_tests, z) in let x = p.1 in absurd (cc (w, x))) in
        unshown_again r small m n t h one (powers_of m) refl (some_power m large) fits end
    by false h = shown_again r small m n t h some high fits end
