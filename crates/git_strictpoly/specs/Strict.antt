-- Reading a polynomial in its one spelling, from left to right: the polynomial, or the kind of the first fault.
-- A step takes what it reads off the front of the bytes, and gives what it read with the bytes after it.
use Rattle.std.specs.Prelude.{ℕ, zero, suc, ◌+◌, ◌-◌, ◌==◌, ◌&&◌, ◌||◌, not, nat_le, nat_lt, Bool, true, false, if◌then◌else◌, List, [], ◌∷◌, length, codes, Option, Some, None, Result, Ok, Err}
use Rattle.std.specs.Str.{bytes_eq}
use Rattle.git_lines.specs.declared.fault.FormKind.{FormKind}
use Rattle.git_lines.specs.declared.fault.FormKind.TheVariants.{Range, Syntax}
use Rattle.git_lines.specs.Numbers.{is_digit, value_of, natural_once}
use Rattle.git_lines.specs.Reading.{◌>>=◌}
use Rattle.git_field.specs.declared.TheConstants.{MODULUS}
use Rattle.git_algebra.specs.Exponents.{Exponents}
use Rattle.git_algebra.specs.Order.{rank}
use Rattle.git_algebra.specs.Sums.{Sum}
use Rattle.git_algebra.specs.Polynomials.{Polynomial, normal}
use Rattle.git_polytext.specs.Terms.{product_of}
use Rattle.git_strictpoly.specs.declared.limits.TheConstants.{TEXT_DEGREE, LARGEST_SIZE, POWER_STEPS}

abbrev pub guard : Bool → FormKind → Result (Unit {0}) FormKind
guard true kind = Ok tt
guard false kind = Err kind

-- ---- bytes

-- the first byte is this one
abbrev pub begins : ℕ → List ℕ → Bool
begins b [] = false
begins b (c ∷ s) = c == b

abbrev pub after_first : List ℕ → List ℕ
after_first [] = []
after_first (c ∷ s) = s

-- this byte
abbrev pub byte_front : ℕ → List ℕ → Result (List ℕ) FormKind
byte_front b s = guard (begins b s) Syntax >>= λ u. Ok (after_first s)

abbrev pub starts_digit : List ℕ → Bool
starts_digit [] = false
starts_digit (b ∷ s) = is_digit b

-- the digits in front
abbrev pub digits_front : List ℕ → List ℕ
digits_front [] = []
digits_front (b ∷ s) = if is_digit b then b ∷ digits_front s else []

-- what comes after them
abbrev pub after_digits : List ℕ → List ℕ
after_digits [] = []
after_digits (b ∷ s) = if is_digit b then after_digits s else b ∷ s

-- the number of digits in its one spelling
abbrev pub some_number : Option ℕ → Result ℕ FormKind
some_number None = Err Syntax
some_number (Some n) = Ok n

-- a number of at most so many digits, from a least one on, in its one spelling
unfoldable pub number_front : ℕ → ℕ → List ℕ → Result ℕ FormKind
number_front limit least s = do
  n ← some_number (natural_once (digits_front s))
  few ← guard (nat_le (length (digits_front s)) limit && nat_le least n) Syntax
  Ok n

-- ---- a power of a variable

-- some digits, none of them a zero in front
abbrev pub is_index : List ℕ → Bool
is_index ds = nat_le 1 (length ds) && not (begins 48 ds)

-- an index from 1 to r; one above r is found at its digits
unfoldable pub index_front : ℕ → List ℕ → Result ℕ FormKind
index_front r s = do
  spelled ← guard (is_index (digits_front s)) Syntax
  known ← guard (nat_le (length (digits_front s)) 4 && nat_le (value_of (digits_front s)) r) Range
  Ok (value_of (digits_front s))

-- T(1) to T(r) with places from 0, or y with place 16
unfoldable pub bracket_front : ℕ → List ℕ → Result (ℕ × List ℕ) FormKind
bracket_front r s = do
  a ← byte_front 84 s
  b ← byte_front 40 a
  i ← index_front r b
  c ← byte_front 41 (after_digits b)
  Ok (i - 1, c)

abbrev pub variable_front : ℕ → List ℕ → Result (ℕ × List ℕ) FormKind
variable_front r s = if begins 121 s then Ok (16, after_first s) else bracket_front r s

-- `^` and an exponent of at least 2, or nothing: then the exponent is 1
unfoldable pub caret_front : List ℕ → Result (ℕ × List ℕ) FormKind
caret_front s = do
  e ← number_front 8 2 s
  Ok (e, after_digits s)

abbrev pub exponent_front : List ℕ → Result (ℕ × List ℕ) FormKind
exponent_front s = if begins 94 s then caret_front (after_first s) else Ok (1, s)

-- a power of a variable whose place is at least low, in a term whose degree is d before it
unfoldable pub power_front : ℕ → ℕ → ℕ → List ℕ → Result ((ℕ × ℕ) × List ℕ) FormKind
power_front r low d s = do
  v ← variable_front r s
  later ← guard (nat_le low v.0) Syntax
  e ← exponent_front v.1
  fits ← guard (nat_le (d + e.0) TEXT_DEGREE) Range
  Ok ((v.0, e.0), e.1)

abbrev pub with_power : ℕ × ℕ → List (ℕ × ℕ) × List ℕ → Result (List (ℕ × ℕ) × List ℕ) FormKind
with_power v vs = Ok (v ∷ vs.0, vs.1)

-- powers, each after a star; the places ascend to 16, so that at most seventeen are read, and the eighteenth has a fault
unfoldable pub powers_after : ℕ → ℕ → ℕ → ℕ → List ℕ → Result (List (ℕ × ℕ) × List ℕ) FormKind
powers_after zero r low d s = Err Syntax
powers_after (suc n) r low d s =
    if begins 42 s then (power_front r low d (after_first s) >>= λ p. (powers_after n r (p.0.0 + 1) (d + p.0.1) p.1 >>= with_power p.0))
    else Ok ([], s)

-- ---- a term

-- a size of 1 stands alone
unfoldable pub sized_front : ℕ → List ℕ → Result ((Exponents × ℕ) × List ℕ) FormKind
sized_front r s = do
  n ← number_front 5 1 s
  within ← guard (nat_le n LARGEST_SIZE && (not (begins 42 (after_digits s)) || nat_le 2 n)) Syntax
  vs ← powers_after POWER_STEPS r 0 0 (after_digits s)
  Ok ((product_of vs.0, n), vs.1)

unfoldable pub unsized_front : ℕ → List ℕ → Result ((Exponents × ℕ) × List ℕ) FormKind
unsized_front r s = do
  v ← power_front r 0 0 s
  vs ← powers_after POWER_STEPS r (v.0.0 + 1) v.0.1 v.1
  Ok ((product_of (v.0 ∷ vs.0), 1), vs.1)

-- a monomial and a size
abbrev pub term_front : ℕ → List ℕ → Result ((Exponents × ℕ) × List ℕ) FormKind
term_front r s = if starts_digit s then sized_front r s else unsized_front r s

-- a size after a sign, as a number modulo 32003
abbrev pub signed : Bool → ℕ → ℕ
signed true n = MODULUS - n
signed false n = n

-- a plus or a minus; whether it is a minus
abbrev pub sign_front : List ℕ → Result Bool FormKind
sign_front s = guard (begins 43 s || begins 45 s) Syntax >>= λ u. Ok (begins 45 s)

-- a sign and a term, whose monomial is below the one before
unfoldable pub later_term : ℕ → Exponents → List ℕ → Result ((Exponents × ℕ) × List ℕ) FormKind
later_term r before s = do
  negative ← sign_front s
  t ← term_front r (after_first s)
  below ← guard (nat_lt (rank t.0.0) (rank before)) Syntax
  Ok ((t.0.0, signed negative t.0.1), t.1)

abbrev pub with_term : Exponents × ℕ → Sum → Result Sum FormKind
with_term t ts = Ok (t ∷ ts)

-- the terms from a sign on to the end; each has a byte at least, so that there are not more of them than bytes
unfoldable pub terms_after : ℕ → ℕ → Exponents → List ℕ → Result Sum FormKind
terms_after n r before [] = Ok []
terms_after zero r before (b ∷ s) = Err Syntax
terms_after (suc n) r before (b ∷ s) = later_term r before (b ∷ s) >>= λ t. (terms_after n r t.0.0 t.1 >>= with_term t.0)

-- a minus alone may stand before the first term
unfoldable pub terms_front : ℕ → Bool → List ℕ → Result Sum FormKind
terms_front r negative s = do
  t ← term_front r s
  ts ← terms_after (length t.1) r t.0.0 t.1
  Ok ((t.0.0, signed negative t.0.1) ∷ ts)

abbrev pub sum_front : ℕ → List ℕ → Result Sum FormKind
sum_front r text = if bytes_eq text (codes "0") then Ok [] else (if begins 45 text then terms_front r true (after_first text) else terms_front r false text)

unfoldable pub strict_polynomial : ℕ → List ℕ → Result Polynomial FormKind
strict_polynomial r text = do
  terms ← sum_front r text
  Ok (normal terms)
