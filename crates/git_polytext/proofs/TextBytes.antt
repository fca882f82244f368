-- The bytes of printed terms.
use Rattle.std.proofs.Common.{◌≡◌, ℕ, ◌+◌, ◌^◌, ◌<◌, Bool, true, false, cond, List, [], ◌∷◌, ◌++◌, map, ◌&&◌, inl, inr, refl, ◌∙◌, arith}
use Rattle.std.specs.Prelude.{◌==◌, not, nat_le, codes, unsigned_abs}
use Rattle.std.specs.List.{list_all, AllByRecursion}
use Rattle.std.specs.Fmt.{decimal}
use Rattle.std.proofs.lemmas.Bool.{and_parts, and_from}
use Rattle.std.proofs.lemmas.Bool.Decides.{nat_tests}
use Rattle.std.proofs.lemmas.List.Folds.{list_all-append}
use Rattle.git_lines.specs.Numbers.{is_digit}
use Rattle.git_lines.proofs.NumberLemmas.{decimal_digits}
use Rattle.git_field.specs.Field.{signed_of}
use Rattle.git_algebra.specs.Exponents.{Exponents, exponent, degree}
use Rattle.git_algebra.specs.Sums.{Sum}
use Rattle.git_algebra.specs.Polynomials.{Polynomial, Proper}
use Rattle.git_poly.specs.Degrees.{HasMonomial}
use Rattle.git_polytext.specs.Laws.{IsPlain}
use Rattle.git_polytext.specs.Printing.{after_stars, starred, powers_of, variable_text, power_text, factor_texts, is_negative, sign_text, term_text, signed_terms, terms_text, polynomial_text}
use Rattle.git_polytext.proofs.Graded.{OfEach, of_polynomial}
use Rattle.git_polytext.proofs.PowersBack.{each_power}
use Rattle.git_polytext.proofs.Sizes.{IsSigned, sized}

-- what stands in a factor: no space, no star, no plus and no minus
abbrev pub is_factor_byte : ℕ → Bool
is_factor_byte b = nat_le 40 b && not (b == 42) && not (b == 43) && not (b == 45)

-- what stands in a term: no space, no plus and no minus
abbrev pub is_term_byte : ℕ → Bool
is_term_byte b = nat_le 40 b && not (b == 43) && not (b == 45)

-- what stands in a polynomial
abbrev pub is_plain_byte : ℕ → Bool
is_plain_byte b = not (b == 32) && not (b == 10) && not (b == 13)

pub all_weaker : (p q : ℕ → Bool) → ((b : ℕ) → p b ≡ true → q b ≡ true) → (t : List ℕ) → list_all p t ≡ true → list_all q t ≡ true
all_weaker p q each [] h = refl
all_weaker p q each (b ∷ t) h = let two = and_parts (p b) (list_all p t) h in and_from (q b) (list_all q t) (each b two.0) (all_weaker p q each t two.1)

pub all_both : (p : ℕ → Bool) (t u : List ℕ) → list_all p t ≡ true → list_all p u ≡ true → list_all p (t ++ u) ≡ true
all_both p t u h k = list_all-append p t u ∙ and_from (list_all p t) (list_all p u) h k

digit_in_factor : (b : ℕ) → is_digit b ≡ true → is_factor_byte b ≡ true
digit_in_factor b h = grind (arith, nat_tests)

factor_in_term : (b : ℕ) → is_factor_byte b ≡ true → is_term_byte b ≡ true
factor_in_term b h = grind (arith, nat_tests)

term_is_plain : (b : ℕ) → is_term_byte b ≡ true → is_plain_byte b ≡ true
term_is_plain b h = grind (arith, nat_tests)

-- ---- factors

pub number_bytes : (n : ℕ) → n < 10 ^ 18 → list_all is_factor_byte (decimal n) ≡ true
number_bytes n h = all_weaker is_digit is_factor_byte digit_in_factor (decimal n) (decimal_digits n h)

variable_by : (i : ℕ) (last : Bool) → i < 17 → list_all is_factor_byte (cond last (codes "y") (codes "T(" ++ decimal (i + 1) ++ codes ")")) ≡ true
variable_by i true h = refl
variable_by i false h = all_both is_factor_byte (codes "T(") (decimal (i + 1) ++ codes ")") refl (all_both is_factor_byte (decimal (i + 1)) (codes ")") (number_bytes (i + 1) (omega (arith, h))) refl)

exponent_by : (e : ℕ) (unit : Bool) → e < 10 ^ 18 → list_all is_factor_byte (cond unit [] (codes "^" ++ decimal e)) ≡ true
exponent_by e true h = refl
exponent_by e false h = all_both is_factor_byte (codes "^") (decimal e) refl (number_bytes e h)

abbrev pub IsFactorText : List ℕ → Type 0
IsFactorText t = list_all is_factor_byte t ≡ true

power_bytes : (v : ℕ × ℕ) → v.0 < 17 → v.1 < 10 ^ 18 → IsFactorText (power_text v)
power_bytes v h k = all_both is_factor_byte (variable_text v.0) _ (variable_by v.0 (v.0 == 16) h) (exponent_by v.1 (v.1 == 1) k)

power_texts : (vs : List (ℕ × ℕ)) → AllByRecursion (λ v. (v.0 < 17) × (v.1 < 10 ^ 18)) vs → AllByRecursion IsFactorText (map power_text vs)
power_texts [] h = tt
power_texts (v ∷ vs) h = (power_bytes v h.0.0 h.0.1, power_texts vs h.1)

pub powers_bytes : (m : Exponents) → ((i : ℕ) → exponent m i < 10 ^ 18) → AllByRecursion IsFactorText (map power_text (powers_of m))
powers_bytes m small = power_texts (powers_of m) (each_power (λ v. (v.0 < 17) × (v.1 < 10 ^ 18)) 0 m.list (λ k h some. (omega (arith, h, m.long), small k)))

factors_by : (size : ℕ) (ts : List (List ℕ)) (hidden : Bool) → size < 10 ^ 18 → AllByRecursion IsFactorText ts → AllByRecursion IsFactorText (cond hidden ts (decimal size ∷ ts))
factors_by size ts true h all = all
factors_by size ts false h all = (number_bytes size h, all)

pub factor_bytes : (size : ℕ) (m : Exponents) → size < 10 ^ 18 → ((i : ℕ) → exponent m i < 10 ^ 18) → AllByRecursion IsFactorText (factor_texts size m)
factor_bytes size m h small = factors_by size (map power_text (powers_of m)) (size == 1 && not (degree m == 0)) h (powers_bytes m small)

-- ---- terms

after_bytes : (ts : List (List ℕ)) → AllByRecursion IsFactorText ts → list_all is_term_byte (after_stars ts) ≡ true
after_bytes [] h = refl
after_bytes (t ∷ ts) h = all_both is_term_byte t (after_stars ts) (all_weaker is_factor_byte is_term_byte factor_in_term t h.0) (after_bytes ts h.1)

starred_bytes : (ts : List (List ℕ)) → AllByRecursion IsFactorText ts → list_all is_term_byte (starred ts) ≡ true
starred_bytes [] h = refl
starred_bytes (t ∷ ts) h = all_both is_term_byte t (after_stars ts) (all_weaker is_factor_byte is_term_byte factor_in_term t h.0) (after_bytes ts h.1)

-- a number below 32003 has a size below 10 ^ 18
pub size_small : (c : ℕ) → c < 32003 → unsigned_abs (signed_of c) < 10 ^ 18
size_small c h = from (sized c h)
  where
    from : IsSigned c → unsigned_abs (signed_of c) < 10 ^ 18
    from (inl (sign, size)) = omega (arith, size, h)
    from (inr (sign, size)) = omega (arith, size, h)

pub term_bytes : (t : Exponents × ℕ) → t.1 < 32003 → ((i : ℕ) → exponent t.0 i < 10 ^ 18) → list_all is_term_byte (term_text t) ≡ true
term_bytes t h small = starred_bytes (factor_texts (unsigned_abs (signed_of t.1)) t.0) (factor_bytes (unsigned_abs (signed_of t.1)) t.0 (size_small t.1 h) small)

-- ---- polynomials

sign_by : (first negative : Bool) → list_all is_plain_byte (cond negative (codes "-") (cond first [] (codes "+"))) ≡ true
sign_by first true = refl
sign_by true false = refl
sign_by false false = refl

signed_bytes : (first : Bool) (s : Sum) → Proper s → OfEach (λ a. (i : ℕ) → exponent a i < 10 ^ 18) s → list_all is_plain_byte (signed_terms first s) ≡ true
signed_bytes first [] u small = refl
signed_bytes first (t ∷ s) u small =
    all_both is_plain_byte (sign_text first t.1 ++ term_text t) (signed_terms false s)
    (all_both is_plain_byte (sign_text first t.1) (term_text t) (sign_by first (is_negative t.1)) (all_weaker is_term_byte is_plain_byte term_is_plain (term_text t) (term_bytes t u.1 small.0)))
    (signed_bytes false s u.3 small.1)

terms_bytes : (s : Sum) → Proper s → OfEach (λ a. (i : ℕ) → exponent a i < 10 ^ 18) s → list_all is_plain_byte (terms_text s) ≡ true
terms_bytes [] u small = refl
terms_bytes (t ∷ s) u small = signed_bytes true (t ∷ s) u small

pub text_is_plain : (p : Polynomial) → ((a : Exponents) (i : ℕ) → HasMonomial p a → exponent a i < 10 ^ 18) → IsPlain (polynomial_text p)
unfolding polynomial_text
text_is_plain p small = terms_bytes p.terms p.proper (of_polynomial (λ a. (i : ℕ) → exponent a i < 10 ^ 18) p (λ a has i. small a i has))
