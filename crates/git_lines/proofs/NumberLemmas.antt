-- An integer's decimal spelling is read back, and is the only one that is read strictly.
use Rattle.std.proofs.Common.{◌≡◌, ℕ, zero, suc, ◌+◌, ◌-◌, ◌*◌, ◌^◌, ◌<◌, ◌≤◌, Bool, true, false, cond, List, [], ◌∷◌, length, get_or, fold, ◌&&◌, ◌||◌, Option, Some, None, refl, sym, ap, ◌∙◌, arith, rules}
use Rattle.std.specs.Prelude.{ℤ, pos, negsuc, nat_le, ◌==◌, not}
use Rattle.std.specs.List.{list_all}
use Rattle.std.specs.Option.{option_map}
use Rattle.std.specs.Int.RustNames.{unsigned_abs}
use Rattle.std.specs.Fmt.{signed_decimal, decimal}
use Rattle.std.proofs.Math.IntN.{neg_ℤ}
use Rattle.std.proofs.lemmas.Bool.{and_parts, eqb-true}
use Rattle.std.proofs.lemmas.Bool.Decides.{nat_tests}
use Rattle.std.proofs.lemmas.Fmt.{digits_decimal, digits_value-decimal, length-decimal-le, decimal_nonempty, decimal-digits_value, first_decimal, decimal_digit}
use Rattle.std.proofs.lemmas.Str.Parse.{IsNumeralModel, numerals_by_fold, digits_value_short}
use Rattle.git_lines.specs.Numbers.{is_digit, value_of, is_natural, natural, integer, has_no_leading_zero, natural_once, negative_once, integer_once}

abbrev read_on : ℕ → List ℕ → ℕ
read_on n ds = fold (λ n d. 10 * n + (d - 48)) n ds

-- std's lemmas on numerals speak of these digits and this value
pub own : IsNumeralModel (λ ds. list_all is_digit ds ≡ true) (read_on 0)
own = numerals_by_fold _ (search rules) read_on (search rules)

pub decimal_value : (n : ℕ) → n < 10 ^ 18 → value_of (decimal n) ≡ n
decimal_value n h = digits_value-decimal own n (omega arith)

pub decimal_digits : (n : ℕ) → n < 10 ^ 18 → list_all is_digit (decimal n) ≡ true
decimal_digits n h = digits_decimal own n (omega arith)

is_natural_from : (ds : List ℕ) → 1 ≤ length ds → length ds ≤ 18 → list_all is_digit ds ≡ true → is_natural ds ≡ true
is_natural_from ds low high digits = grind (arith, nat_tests)

decimal_is_natural : (n : ℕ) → n < 10 ^ 18 → is_natural (decimal n) ≡ true
decimal_is_natural n h = is_natural_from (decimal n) (decimal_nonempty n (omega arith)) (length-decimal-le 18 n (omega arith) h (omega arith)) (decimal_digits n h)

pub natural_decimal : (n : ℕ) → n < 10 ^ 18 → natural (decimal n) ≡ Some n
natural_decimal n h = rw (decimal_is_natural n h) (ap (λ m. Some m) (decimal_value n h))

digit_is_no_minus : (b : ℕ) → is_digit b ≡ true → (b == 45) ≡ false
digit_is_no_minus b h = grind (arith, nat_tests)

-- a text of digits has no sign
integer_digits : (ds : List ℕ) → 0 < length ds → list_all is_digit ds ≡ true → integer ds ≡ option_map pos (natural ds)
integer_digits [] some digits = absurd (omega arith)
integer_digits (b ∷ bytes) some digits = let plain : (b == 45) ≡ false = digit_is_no_minus b (and_parts (is_digit b) (list_all is_digit bytes) digits).0 in rw plain refl

once_digits : (ds : List ℕ) → 0 < length ds → list_all is_digit ds ≡ true → integer_once ds ≡ option_map pos (natural_once ds)
once_digits [] some digits = absurd (omega arith)
once_digits (b ∷ bytes) some digits = let plain : (b == 45) ≡ false = digit_is_no_minus b (and_parts (is_digit b) (list_all is_digit bytes) digits).0 in rw plain refl

pub integer_is_read_back : (z : ℤ) → unsigned_abs z < 10 ^ 18 → integer (signed_decimal z) ≡ Some z
integer_is_read_back (pos n) h = integer_digits (decimal n) (decimal_nonempty n (omega arith)) (decimal_digits n h) ∙ ap (option_map pos) (natural_decimal n h)
integer_is_read_back (negsuc n) h = ap (option_map (λ n. neg_ℤ (pos n))) (natural_decimal (suc n) h)

-- ---- one spelling

some_if : (test : Bool) (m n : ℕ) → cond test (Some m) None ≡ Some n → (test ≡ true) × (m ≡ n)
some_if true m n e = (refl, cc)
some_if false m n e = absurd (cc e)

first_zero : (k b : ℕ) → (k == 1 || not (b == 48)) ≡ true → b ≡ 48 → k ≡ 1
first_zero k b h e = grind (arith, nat_tests)

record Once (ds : List ℕ) (n : ℕ) : Type 0 where
  some : 0 < length ds
  few : length ds ≤ 18
  digits : list_all is_digit ds ≡ true
  front : get_or ds 0 0 ≡ 48 → length ds ≡ 1
  value : value_of ds ≡ n

once_is : (ds : List ℕ) (n : ℕ) → natural_once ds ≡ Some n → Once ds n
once_is ds n e =
    let s = some_if (is_natural ds && has_no_leading_zero ds) (value_of ds) n e in
    let a = and_parts (is_natural ds) (has_no_leading_zero ds) s.0 in
    let b = and_parts (nat_le 1 (length ds) && nat_le (length ds) 18) (list_all is_digit ds) a.0 in
    let c = and_parts (nat_le 1 (length ds)) (nat_le (length ds) 18) b.0 in
    record { some = grind (arith, nat_tests); few = grind (arith, nat_tests); digits = b.1; front = first_zero (length ds) (get_or ds 0 0) a.1; value = s.1 }

pub natural_once_is : (ds : List ℕ) (n : ℕ) → natural_once ds ≡ Some n → ds ≡ decimal n
natural_once_is ds n e =
    let f = once_is ds n e in
    let small : value_of ds < 2 ^ 64 = omega (arith, digits_value_short own ds 18 f.digits f.few) in
    sym (decimal-digits_value own ds f.digits f.some f.front small) ∙ ap decimal f.value

negative_is : (ds : List ℕ) (o : Option ℕ) (z : ℤ) → natural_once ds ≡ o → negative_once o ≡ Some z → 45 ∷ ds ≡ signed_decimal z
negative_is ds None z e h = absurd (cc h)
negative_is ds (Some zero) z e h = absurd (cc h)
negative_is ds (Some (suc n)) z e h =
    let is : negsuc n ≡ z = cc h in ap (λ l. 45 ∷ l) (natural_once_is ds (suc n) e) ∙ ap signed_decimal is

positive_is : (ds : List ℕ) (o : Option ℕ) (z : ℤ) → natural_once ds ≡ o → option_map pos o ≡ Some z → ds ≡ signed_decimal z
positive_is ds None z e h = absurd (cc h)
positive_is ds (Some n) z e h = let is : pos n ≡ z = cc h in natural_once_is ds n e ∙ ap signed_decimal is

once_by : (b : ℕ) (bytes : List ℕ) (z : ℤ) (test : Bool) → (b == 45) ≡ test → cond test (negative_once (natural_once bytes)) (option_map pos (natural_once (b ∷ bytes))) ≡ Some z → b ∷ bytes ≡ signed_decimal z
once_by b bytes z true t h = let minus : b ≡ 45 = eqb-true _ _ t in rw minus (negative_is bytes (natural_once bytes) z refl h)
once_by b bytes z false t h = positive_is (b ∷ bytes) (natural_once (b ∷ bytes)) z refl h

-- an integer that is read strictly is the one that is printed
pub integer_once_is : (text : List ℕ) (z : ℤ) → integer_once text ≡ Some z → text ≡ signed_decimal z
integer_once_is [] z h = absurd (cc h)
integer_once_is (b ∷ bytes) z h = once_by b bytes z (b == 45) refl h

-- ---- the decimal spelling is read strictly too

above_zero : (k b : ℕ) → 48 < b → (k == 1 || not (b == 48)) ≡ true
above_zero k b h = grind (arith, nat_tests)

no_zero_in_front : (n : ℕ) → n < 10 ^ 18 → has_no_leading_zero (decimal n) ≡ true
no_zero_in_front zero h = let one : decimal 0 ≡ 48 ∷ [] = decimal_digit 0 (omega arith) in rw one refl
no_zero_in_front (suc n) h = let first : 48 < get_or (decimal (suc n)) 0 0 = first_decimal (suc n) (omega arith) (omega arith) in above_zero (length (decimal (suc n))) (get_or (decimal (suc n)) 0 0) first

natural_once_decimal : (n : ℕ) → n < 10 ^ 18 → natural_once (decimal n) ≡ Some n
natural_once_decimal n h = rw (decimal_is_natural n h, no_zero_in_front n h) (ap (λ m. Some m) (decimal_value n h))

pub integer_is_read_back_once : (z : ℤ) → unsigned_abs z < 10 ^ 18 → integer_once (signed_decimal z) ≡ Some z
integer_is_read_back_once (pos n) h = once_digits (decimal n) (decimal_nonempty n (omega arith)) (decimal_digits n h) ∙ ap (option_map pos) (natural_once_decimal n h)
integer_is_read_back_once (negsuc n) h = ap negative_once (natural_once_decimal (suc n) h)
