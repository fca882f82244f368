-- What is read as a power of a variable is how one is printed.
use Rattle.std.proofs.Common.{◌≡◌, ℕ, zero, suc, ◌+◌, ◌-◌, ◌^◌, ◌<◌, ◌≤◌, ◌⊎◌, inl, inr, Bool, true, false, cond, List, [], ◌∷◌, ◌++◌, length, get_or, ◌&&◌, Ok, refl, sym, ap, ◌∙◌, append_assoc, arith}
use Rattle.std.specs.Prelude.{nat_le, ◌==◌, not, codes}
use Rattle.std.specs.List.{list_all}
use Rattle.std.specs.Fmt.{decimal}
use Rattle.std.proofs.lemmas.Bool.{and_parts, eqb-true}
use Rattle.std.proofs.lemmas.Bool.Decides.{nat_tests}
use Rattle.std.proofs.lemmas.Fmt.{decimal-digits_value, length-decimal-le, decimal_nonempty, first_decimal, decimal_digit}
use Rattle.std.proofs.lemmas.Str.Parse.{digits_value_short}
use Rattle.git_lines.specs.declared.fault.FormKind.TheVariants.{Range, Syntax}
use Rattle.git_lines.specs.Numbers.{is_digit, value_of}
use Rattle.git_lines.proofs.Exact.{bind_ok, ok_is}
use Rattle.git_lines.proofs.NumberLemmas.{own, decimal_value, decimal_digits}
use Rattle.git_polytext.specs.Printing.{variable_text}
use Rattle.git_strictpoly.specs.Strict.{guard, begins, after_first, byte_front, starts_digit, digits_front, after_digits, is_index, index_front, bracket_front, variable_front, number_front, caret_front, exponent_front}
use Rattle.git_strictpoly.proofs.Fronts.{bind_again, guard_is, guard_again, le_is, le_again, both, begins_is, byte_is, digits_are, digits_again, number_is, number_again}

-- ---- an index

first_byte : (b : ℕ) (ds : List ℕ) → not (begins 48 ds) ≡ true → get_or ds 0 0 ≡ 48 → 0 < length ds → length ds ≡ 1
first_byte b [] h z some = absurd (omega (arith, some))
first_byte b (d ∷ ds) h z some = let e : d ≡ 48 = z in absurd (grind (arith, nat_tests, h, e))

pub digits_all : (s : List ℕ) → list_all is_digit (digits_front s) ≡ true
digits_all [] = refl
digits_all (b ∷ s) = by (digits_all s) (is_digit b) refl
  where
    by : list_all is_digit (digits_front s) ≡ true → (test : Bool) → is_digit b ≡ test → list_all is_digit (cond test (b ∷ digits_front s) []) ≡ true
    by ih true e = rw e ih
    by ih false e = refl

positive : (ds : List ℕ) → ds ≡ decimal 0 → not (begins 48 ds) ≡ true → ⊥
positive ds e h = let z : not (begins 48 (48 ∷ [])) ≡ true = ap (λ x. not (begins 48 x)) (sym (e ∙ decimal_digit 0 (omega arith))) ∙ h in absurd (cc z)

some_value : (ds : List ℕ) (n : ℕ) → ds ≡ decimal n → not (begins 48 ds) ≡ true → 1 ≤ n
some_value ds zero e h = absurd (positive ds e h)
some_value ds (suc n) e h = omega arith

pub index_is : (r : ℕ) (s : List ℕ) (i : ℕ) → index_front r s ≡ Ok i → (s ≡ decimal i ++ after_digits s) × (1 ≤ i) × (i ≤ r)
unfolding index_front
index_is r s i e =
    let ds = digits_front s in
    let a = bind_ok (guard (is_index ds) Syntax) _ i e in
    let b = bind_ok (guard (nat_le (length ds) 4 && nat_le (value_of ds) r) Range) _ i a.2 in
    let same : value_of ds ≡ i = ok_is (value_of ds) i b.2 in
    let p = and_parts (nat_le 1 (length ds)) (not (begins 48 ds)) (guard_is _ Syntax a.0 a.1) in
    let q = and_parts (nat_le (length ds) 4) (nat_le (value_of ds) r) (guard_is _ Range b.0 b.1) in
    let some : 0 < length ds = omega (arith, le_is 1 (length ds) p.0) in
    let few : length ds ≤ 18 = omega (arith, le_is (length ds) 4 q.0) in
    let small : value_of ds < 2 ^ 64 = omega (arith, digits_value_short own ds 18 (digits_all s) few) in
    let is : ds ≡ decimal (value_of ds) = sym (decimal-digits_value own ds (digits_all s) some (λ z. first_byte 0 ds p.1 z some) small) in
    let made : ds ≡ decimal i = is ∙ ap decimal same in
    (digits_are s ∙ ap (λ x. x ++ after_digits s) made, some_value ds i made p.1, omega (arith, le_is (value_of ds) r q.1, same))

no_zero : (ds : List ℕ) → 48 < get_or ds 0 0 → not (begins 48 ds) ≡ true
no_zero [] h = absurd (omega (arith, h))
no_zero (d ∷ ds) h = let e : 48 < d = h in grind (arith, nat_tests, e)

pub index_again : (r i : ℕ) (t : List ℕ) → 1 ≤ i → i ≤ r → i < 10000 → starts_digit t ≡ false → (index_front r (decimal i ++ t) ≡ Ok i) × (after_digits (decimal i ++ t) ≡ t)
unfolding index_front
index_again r i t some within small quiet =
    let d = digits_again (decimal i) t (decimal_digits i (omega (arith, small))) quiet in
    let value : value_of (digits_front (decimal i ++ t)) ≡ i = ap value_of d.0 ∙ decimal_value i (omega (arith, small)) in
    let long : nat_le 1 (length (digits_front (decimal i ++ t))) ≡ true = ap (λ ds. nat_le 1 (length ds)) d.0 ∙ le_again 1 (length (decimal i)) (decimal_nonempty i (omega (arith, small))) in
    let first : not (begins 48 (digits_front (decimal i ++ t))) ≡ true = ap (λ ds. not (begins 48 ds)) d.0 ∙ no_zero (decimal i) (first_decimal i (omega (arith, some)) (omega (arith, small))) in
    let few : nat_le (length (digits_front (decimal i ++ t))) 4 ≡ true = ap (λ ds. nat_le (length ds) 4) d.0 ∙ le_again (length (decimal i)) 4 (length-decimal-le 4 i (omega arith) (omega (arith, small)) (omega (arith, small))) in
    let known : nat_le (value_of (digits_front (decimal i ++ t))) r ≡ true = ap (λ n. nat_le n r) value ∙ le_again i r within in
    (bind_again _ _ tt _ (guard_again _ Syntax (both _ _ long first)) (bind_again _ _ tt _ (guard_again _ Range (both _ _ few known)) (ap (λ n. Ok n) value)), d.1)

-- ---- a variable

-- the place of T(1) to T(r), or of y
abbrev pub IsPlace : ℕ → ℕ → Type 0
IsPlace r i = (i < r) ⊎ (i ≡ 16)

other_place : (i : ℕ) → i < 16 → (i == 16) ≡ false
other_place i h = grind (arith, nat_tests)

bracket_text : (i : ℕ) → i < 16 → (t : List ℕ) → variable_text i ++ t ≡ 84 ∷ 40 ∷ (decimal (i + 1) ++ (41 ∷ t))
bracket_text i h t = ap (λ (b : Bool). cond b (codes "y") (codes "T(" ++ decimal (i + 1) ++ codes ")") ++ t) (other_place i h) ∙ ap (λ x. 84 ∷ 40 ∷ x) (append_assoc (decimal (i + 1)) (41 ∷ []) t)

y_text : (i : ℕ) → i ≡ 16 → (t : List ℕ) → variable_text i ++ t ≡ 121 ∷ t
y_text i h t = ap (λ k. variable_text k ++ t) h

bracket_is : (r : ℕ) → r ≤ 16 → (s : List ℕ) (i : ℕ) (t : List ℕ) → bracket_front r s ≡ Ok (i, t) → (s ≡ variable_text i ++ t) × IsPlace r i
unfolding bracket_front
bracket_is r small s i t e =
    let a = bind_ok (byte_front 84 s) _ (i, t) e in
    let b = bind_ok (byte_front 40 a.0) _ (i, t) a.2 in
    let n = bind_ok (index_front r b.0) _ (i, t) b.2 in
    let c = bind_ok (byte_front 41 (after_digits b.0)) _ (i, t) n.2 in
    let p = ok_is (n.0 - 1, c.0) (i, t) c.2 in
    let x = index_is r b.0 n.0 n.1 in
    let place : n.0 ≡ i + 1 = omega (arith, ap (λ q. q.0) p, x.1) in
    let end : after_digits b.0 ≡ 41 ∷ t = byte_is 41 (after_digits b.0) c.0 c.1 ∙ ap (λ q. 41 ∷ q.1) p in
    let text : b.0 ≡ decimal (i + 1) ++ (41 ∷ t) = x.0 ∙ (λ j. decimal (place j) ++ end j) in
    let within : i < r = omega (arith, place, x.2) in
    (byte_is 84 s a.0 a.1 ∙ ap (λ q. 84 ∷ q) (byte_is 40 a.0 b.0 b.1 ∙ ap (λ q. 40 ∷ q) text) ∙ sym (bracket_text i (omega (arith, within, small)) t), inl within)

variable_by : (r : ℕ) → r ≤ 16 → (s : List ℕ) (i : ℕ) (t : List ℕ) (test : Bool) → begins 121 s ≡ test → cond test (Ok (16, after_first s)) (bracket_front r s) ≡ Ok (i, t) → (s ≡ variable_text i ++ t) × IsPlace r i
variable_by r small s i t true b e =
    let p = ok_is (16, after_first s) (i, t) e in
    let place : i ≡ 16 = sym (ap (λ q. q.0) p) in
    (begins_is 121 s b ∙ ap (λ q. 121 ∷ q.1) p ∙ sym (y_text i place t), inr place)
variable_by r small s i t false b e = bracket_is r small s i t e

pub variable_is : (r : ℕ) → r ≤ 16 → (s : List ℕ) (i : ℕ) (t : List ℕ) → variable_front r s ≡ Ok (i, t) → (s ≡ variable_text i ++ t) × IsPlace r i
variable_is r small s i t e = variable_by r small s i t (begins 121 s) refl e

bracket_again : (r i : ℕ) (t : List ℕ) → i < r → i < 16 → bracket_front r (84 ∷ 40 ∷ (decimal (i + 1) ++ (41 ∷ t))) ≡ Ok (i, t)
unfolding bracket_front
bracket_again r i t within small =
    let x = index_again r (i + 1) (41 ∷ t) (omega arith) (omega (arith, within)) (omega (arith, small)) refl in
    let place : i + 1 - 1 ≡ i = omega arith in
    rw (x.0, x.1) (ap (λ k. Ok (k, t)) place)

pub variable_again : (r i : ℕ) (t : List ℕ) → IsPlace r i → i ≤ 16 → variable_front r (variable_text i ++ t) ≡ Ok (i, t)
variable_again r i t (inr y) small = ap (variable_front r) (y_text i y t) ∙ ap (λ k. Ok (k, t)) (sym y)
variable_again r i t (inl within) small = by (i == 16) refl
  where
    by : (test : Bool) → (i == 16) ≡ test → variable_front r (variable_text i ++ t) ≡ Ok (i, t)
    by true e = let y : i ≡ 16 = eqb-true i 16 e in ap (variable_front r) (y_text i y t) ∙ ap (λ k. Ok (k, t)) (sym y)
    by false e = let lt : i < 16 = grind (arith, nat_tests) in ap (variable_front r) (bracket_text i lt t) ∙ bracket_again r i t within lt

-- ---- an exponent

abbrev pub exponent_text : ℕ → List ℕ
exponent_text e = cond (e == 1) [] (codes "^" ++ decimal e)

other_than_one : (e : ℕ) → 2 ≤ e → (e == 1) ≡ false
other_than_one e h = grind (arith, nat_tests)

caret_text : (e : ℕ) → 2 ≤ e → (t : List ℕ) → exponent_text e ++ t ≡ 94 ∷ (decimal e ++ t)
caret_text e h t = ap (λ (b : Bool). cond b [] (codes "^" ++ decimal e) ++ t) (other_than_one e h)

caret_is : (s : List ℕ) (e : ℕ) (t : List ℕ) → caret_front s ≡ Ok (e, t) → (s ≡ decimal e ++ t) × (2 ≤ e)
unfolding caret_front
caret_is s e t h =
    let n = bind_ok (number_front 8 2 s) _ (e, t) h in
    let p = ok_is (n.0, after_digits s) (e, t) n.2 in
    let x = number_is 8 2 s n.0 n.1 in
    (x.0 ∙ ap (λ q. decimal q.0 ++ q.1) p, omega (arith, x.1, ap (λ q. q.0) p))

exponent_by : (s : List ℕ) (e : ℕ) (t : List ℕ) (test : Bool) → begins 94 s ≡ test → cond test (caret_front (after_first s)) (Ok (1, s)) ≡ Ok (e, t) → (s ≡ exponent_text e ++ t) × (1 ≤ e)
exponent_by s e t true b h =
    let c = caret_is (after_first s) e t h in
    (begins_is 94 s b ∙ ap (λ q. 94 ∷ q) c.0 ∙ sym (caret_text e c.1 t), omega (arith, c.1))
exponent_by s e t false b h =
    let p = ok_is (1, s) (e, t) h in
    (ap (λ q. exponent_text q.0 ++ q.1) p, omega (arith, ap (λ q. q.0) p))

pub exponent_is : (s : List ℕ) (e : ℕ) (t : List ℕ) → exponent_front s ≡ Ok (e, t) → (s ≡ exponent_text e ++ t) × (1 ≤ e)
exponent_is s e t h = exponent_by s e t (begins 94 s) refl h

-- what may follow a power: no digit and no caret
pub record IsQuiet (t : List ℕ) : Type 0 where
  pub no_digit : starts_digit t ≡ false
  pub no_caret : begins 94 t ≡ false

caret_again : (e : ℕ) (t : List ℕ) → 2 ≤ e → e < 100000000 → IsQuiet t → caret_front (decimal e ++ t) ≡ Ok (e, t)
unfolding caret_front
caret_again e t some small quiet =
    let x = number_again 8 2 e t (omega (arith, small)) (length-decimal-le 8 e (omega arith) (omega (arith, small)) (omega (arith, small))) some quiet.no_digit in
    bind_again _ _ e _ x.0 (ap (λ u. Ok (e, u)) x.1)

pub exponent_again : (e : ℕ) (t : List ℕ) → 1 ≤ e → e < 100000000 → IsQuiet t → exponent_front (exponent_text e ++ t) ≡ Ok (e, t)
exponent_again e t some small quiet = by (e == 1) refl
  where
    by : (test : Bool) → (e == 1) ≡ test → exponent_front (exponent_text e ++ t) ≡ Ok (e, t)
    by true h =
        let one : e ≡ 1 = eqb-true e 1 h in
        let text : exponent_text e ++ t ≡ t = ap (λ k. exponent_text k ++ t) one in
        let none : exponent_front t ≡ Ok (1, t) = ap (λ (b : Bool). cond b (caret_front (after_first t)) (Ok (1, t))) quiet.no_caret in
        ap exponent_front text ∙ none ∙ ap (λ k. Ok (k, t)) (sym one)
    by false h =
        let two : 2 ≤ e = grind (arith, nat_tests) in
        ap exponent_front (caret_text e two t) ∙ caret_again e t two small quiet
