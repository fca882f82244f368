-- Reading the line of a polynomial from left to right: a value, or the first fault.
use Rattle.std.specs.Prelude.{◌≡◌, ℕ, ◌+◌, ◌-◌, ◌&&◌, ◌||◌, nat_le, Bool, true, false, if◌then◌else◌, List, [], ◌∷◌, length, codes, Option, Some, None, Result, Ok, Err}
use Rattle.std.specs.List.{list_all}
use Rattle.std.specs.Str.{bytes_eq}
use Rattle.git_lines.specs.declared.fault.FormKind.{FormKind}
use Rattle.git_lines.specs.declared.fault.FormKind.TheVariants.{Range, Syntax}
use Rattle.git_lines.specs.declared.parts.Separator.TheVariants.{Star}
use Rattle.git_lines.specs.declared.tokens.Joining.TheVariants.{Signs}
use Rattle.git_lines.specs.Numbers.{is_digit, value_of}
use Rattle.git_lines.specs.Parts.{Part, parts}
use Rattle.git_lines.specs.Reading.{◌>>=◌, lift, word_token}
use Rattle.git_lines.specs.Tokens.{Token, RestOfLine, rest_from, next_token}
use Rattle.git_algebra.specs.Exponents.{Exponents, exponent, one, times, variable_power}
use Rattle.git_algebra.specs.Sums.{Sum}
use Rattle.git_algebra.specs.Polynomials.{Polynomial, normal}
use Rattle.git_polytext.specs.declared.fault.PolynomialFault.{PolynomialFault}
use Rattle.git_polytext.specs.declared.fault.PolynomialFault.TheVariants.{Form, Variable, NoMemory}
use Rattle.git_polytext.specs.Pieces.{pieces}
use Rattle.git_polytext.specs.Terms.{after_sign}
use Rattle.git_limits.specs.declared.TheConstants.{TERMS, EXPONENT}

abbrev pub fault_at : {A : Type 0} → ℕ → ℕ → FormKind → Result A PolynomialFault
fault_at line column kind = Err (Form (record { line = line; column = column; kind = kind }))

-- ---- signs and numbers

abbrev pub number_in : ℕ → RestOfLine → Option (Token × RestOfLine) → Result (ℕ × RestOfLine) PolynomialFault
number_in limit rest None = fault_at rest.line rest.past Syntax
number_in limit rest (Some p) =
    if list_all is_digit p.0.text then (if nat_le (length p.0.text) limit then Ok (value_of p.0.text, p.1) else fault_at rest.line (p.0.column + limit) Syntax)
    else fault_at rest.line p.0.column Syntax

-- a number of at most so many digits; its digits are all read before they are counted
unfoldable pub number_sign : ℕ → RestOfLine → Result (ℕ × RestOfLine) PolynomialFault
number_sign limit rest = number_in limit rest (next_token rest)

abbrev pub bracket_in : RestOfLine → Option (Token × RestOfLine) → Result (ℕ × RestOfLine) PolynomialFault
bracket_in rest None = fault_at rest.line rest.past Syntax
bracket_in rest (Some p) =
    if bytes_eq p.0.text (codes "T(") then Ok (p.0.column, p.1)
    else if bytes_eq p.0.text (codes "T") then fault_at rest.line (p.0.column + 1) Syntax
    else fault_at rest.line p.0.column Syntax

-- `T(`, and the column of its first byte
unfoldable pub bracket_sign : RestOfLine → Result (ℕ × RestOfLine) PolynomialFault
bracket_sign rest = bracket_in rest (next_token rest)

abbrev pub exponent_in : RestOfLine → Option (Token × RestOfLine) → Result (ℕ × RestOfLine) PolynomialFault
exponent_in rest None = Ok (1, rest)
exponent_in rest (Some p) = if bytes_eq p.0.text (codes "^") then number_sign 4 p.1 else Ok (1, rest)

-- `^` and an exponent, or nothing: then the exponent is 1
unfoldable pub exponent_sign : RestOfLine → Result (ℕ × RestOfLine) PolynomialFault
exponent_sign rest = exponent_in rest (next_token rest)

abbrev pub nothing_in : RestOfLine → Option (Token × RestOfLine) → Result (Unit {0}) PolynomialFault
nothing_in rest None = Ok tt
nothing_in rest (Some p) = fault_at rest.line p.0.column Syntax

-- no sign more
unfoldable pub no_sign : RestOfLine → Result (Unit {0}) PolynomialFault
no_sign rest = nothing_in rest (next_token rest)

-- ---- a factor of a term

-- there is a variable of this index; else the fault is at its `T`
abbrev pub known : ℕ → ℕ → ℕ → ℕ → Result (Unit {0}) PolynomialFault
known r line column i = if nat_le 1 i && nat_le i r then Ok tt else Err (Variable line column)

-- the monomial times one power more, whose exponents may not pass 64; else the fault is at the term's first byte
abbrev pub raised : ℕ → ℕ → Exponents → ℕ → ℕ → Result Exponents PolynomialFault
raised line start m place e = if nat_le (exponent m place + e) EXPONENT then Ok (times m (variable_power place e)) else fault_at line start Range

-- a power of a variable, and nothing after it; the exponents of its term are checked before what comes after it
unfoldable pub power_signs : ℕ → ℕ → Exponents → RestOfLine → Result Exponents PolynomialFault
power_signs r start m rest = do
  a ← bracket_sign rest
  i ← number_sign 4 a.1
  there ← known r rest.line a.0 i.0
  b ← lift Form (word_token (codes ")") i.1)
  e ← exponent_sign b
  more ← raised rest.line start m (i.0 - 1) e.0
  none ← no_sign e.1
  Ok more

-- the signs of a part of a line
abbrev pub signs_of : ℕ → Part → RestOfLine
signs_of line p = rest_from Signs line p.column p.text

-- the powers of the factors, to the monomial so far
unfoldable pub power_parts : ℕ → ℕ → ℕ → Exponents → List Part → Result Exponents PolynomialFault
power_parts r line start m [] = Ok m
power_parts r line start m (p ∷ ps) = do
  more ← power_signs r start m (signs_of line p)
  power_parts r line start more ps

-- ---- a term

-- the token begins a term
abbrev pub begins_term : List ℕ → Bool
begins_term text = list_all is_digit text || bytes_eq text (codes "T(") || bytes_eq text (codes "T")

-- no term begins where there are enough
abbrev pub within_count : Bool → ℕ → Token → Result (Unit {0}) PolynomialFault
within_count full line t = if full && begins_term t.text then fault_at line t.column Range else Ok tt

-- the monomial and the number of a first factor: a power of a variable, or a number
abbrev pub begun : ℕ → ℕ → RestOfLine → Bool → Result (Exponents × ℕ) PolynomialFault
begun r start rest true = do
  n ← number_sign 18 rest
  none ← no_sign n.1
  Ok (one, n.0)
begun r start rest false = do
  m ← power_signs r start one rest
  Ok (m, 1)

abbrev pub first_in : Bool → ℕ → RestOfLine → Option (Token × RestOfLine) → Result (ℕ × (Exponents × ℕ)) PolynomialFault
first_in full r rest None = fault_at rest.line rest.past Syntax
first_in full r rest (Some p) = do
  few ← within_count full rest.line p.0
  x ← begun r p.0.column rest (list_all is_digit p.0.text)
  Ok (p.0.column, x)

-- a first factor, and the column of its first byte; full where its term is one too many
unfoldable pub first_factor : Bool → ℕ → RestOfLine → Result (ℕ × (Exponents × ℕ)) PolynomialFault
first_factor full r rest = first_in full r rest (next_token rest)

-- there is always a first part
abbrev pub term_in : Bool → ℕ → ℕ → Option ℕ → List Part → Result (Exponents × ℕ) PolynomialFault
term_in full r line sign [] = fault_at line 1 Syntax
term_in full r line sign (p ∷ ps) = do
  first ← first_factor full r (signs_of line p)
  m ← power_parts r line first.0 first.1.0 ps
  Ok (m, after_sign sign first.1.1)

-- the monomial and the number of a term, after so many others
unfoldable pub term_part : ℕ → ℕ → ℕ → Part → Result (Exponents × ℕ) PolynomialFault
term_part r line count p = term_in (nat_le TERMS count) r line p.separator (parts Star p.column p.text)

-- ---- a line

unfoldable pub term_parts : ℕ → ℕ → ℕ → List Part → Result Sum PolynomialFault
term_parts r line count [] = Ok []
term_parts r line count (p ∷ ps) = do
  first ← term_part r line count p
  others ← term_parts r line (count + 1) ps
  Ok (first ∷ others)

-- the terms of a line with this number and these bytes, where there are the variables 1 to r
unfoldable pub terms_line : ℕ → ℕ → List ℕ → Result Sum PolynomialFault
terms_line r line content = term_parts r line 0 (pieces content)

-- the polynomial of a line: the sum of its terms
unfoldable pub polynomial_line : ℕ → ℕ → List ℕ → Result Polynomial PolynomialFault
polynomial_line r line content = do
  terms ← terms_line r line content
  Ok (normal terms)

-- ---- what a function of the code gives, seen by view, is what reading gives, unless memory runs out

abbrev pub Fails : {Y : Type 0} → PolynomialFault → Result Y PolynomialFault → Type 0
Fails NoMemory read = Unit {0}
Fails (Form f) read = read ≡ Err (Form f)
Fails (Variable line column) read = read ≡ Err (Variable line column)

abbrev pub GivesUnlessFull : {X Y : Type 0} → (X → Y) → Result X PolynomialFault → Result Y PolynomialFault → Type 0
GivesUnlessFull view (Ok x) read = read ≡ Ok (view x)
GivesUnlessFull view (Err e) read = Fails e read
