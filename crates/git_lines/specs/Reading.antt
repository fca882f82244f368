-- Reading from left to right: a value and what is left, or the first fault.
use Rattle.std.specs.Prelude.{◌≡◌, ℕ, zero, suc, ◌+◌, ◌&&◌, if◌then◌else◌, List, [], ◌∷◌, ℤ, Option, Some, None, Result, Ok, Err, int_le}
use Rattle.std.specs.Str.{bytes_eq}
use Rattle.git_lines.specs.declared.fault.FormFault.{FormFault}
use Rattle.git_lines.specs.declared.fault.FormKind.{FormKind}
use Rattle.git_lines.specs.declared.fault.FormKind.TheVariants.{Number, Count, Range, Syntax, Truncated, Trailing}
use Rattle.git_lines.specs.Lines.{RestOfText, NumberedLine, content, without_last, is_ended}
use Rattle.git_lines.specs.Tokens.{Token, RestOfLine, next_token}
use Rattle.git_lines.specs.Numbers.{integer}

-- one after the other; the first fault ends it
infixl 10 ◌>>=◌
abbrev pub ◌>>=◌ : {A B E : Type 0} → Result A E → (A → Result B E) → Result B E
(Ok x) >>= f = f x
(Err e) >>= f = Err e

-- the fault as one of another type
abbrev pub lift : {A D E : Type 0} → (D → E) → Result A D → Result A E
lift as_fault (Ok x) = Ok x
lift as_fault (Err d) = Err (as_fault d)

abbrev pub fault_at : {A : Type 0} → ℕ → ℕ → FormKind → Result A FormFault
fault_at line column kind = Err (record { line = line; column = column; kind = kind })

-- so many steps, one after the other
unfoldable pub times : {A S E : Type 0} → (S → Result (A × S) E) → ℕ → S → Result (List A × S) E
times step zero s = Ok ([], s)
times step (suc n) s = do
  first ← step s
  others ← times step n first.1
  Ok (first.0 ∷ others.0, others.1)

-- ---- lines

abbrev pub line_at : ℕ → List (List ℕ) → Result (NumberedLine × RestOfText) FormFault
line_at line [] = fault_at line 1 Truncated
line_at line (l ∷ ls) = Ok (record { number = line; text = content l }, record { line = line + 1; lines = ls })

-- the next line, which has to be there
unfoldable pub next_line : RestOfText → Result (NumberedLine × RestOfText) FormFault
next_line text = line_at text.line text.lines

abbrev pub ended_line_at : ℕ → List (List ℕ) → Result (NumberedLine × RestOfText) FormFault
ended_line_at line [] = fault_at line 1 Truncated
ended_line_at line (l ∷ ls) = if is_ended l then Ok (record { number = line; text = without_last 10 l }, record { line = line + 1; lines = ls }) else fault_at line 1 Truncated

-- the next line, which has to be there with its line feed; a carriage return is a byte like any other
unfoldable pub next_ended_line : RestOfText → Result (NumberedLine × RestOfText) FormFault
next_ended_line text = ended_line_at text.line text.lines

-- the next line, read whole by its number and its bytes
unfoldable pub line_by : {A E : Type 0} → (RestOfText → Result (NumberedLine × RestOfText) FormFault) → (FormFault → E) → (ℕ → List ℕ → Result A E) → RestOfText → Result (A × RestOfText) E
line_by next as_fault read text = do
  l ← lift as_fault (next text)
  a ← read l.0.number l.0.text
  Ok (a, l.1)

abbrev pub nothing_at : ℕ → List (List ℕ) → Result (Unit {0}) FormFault
nothing_at line [] = Ok tt
nothing_at line (l ∷ ls) = fault_at line 1 Trailing

-- no line more
unfoldable pub no_line : RestOfText → Result (Unit {0}) FormFault
no_line text = nothing_at text.line text.lines

-- ---- tokens of a line

abbrev pub word_in : List ℕ → RestOfLine → Option (Token × RestOfLine) → Result RestOfLine FormFault
word_in word rest None = fault_at rest.line rest.past Syntax
word_in word rest (Some p) = if bytes_eq p.0.text word then Ok p.1 else fault_at rest.line p.0.column Syntax

-- the needed word
unfoldable pub word_token : List ℕ → RestOfLine → Result RestOfLine FormFault
word_token word rest = word_in word rest (next_token rest)

abbrev pub integer_within : ℤ → ℤ → ℕ → Token × RestOfLine → Option ℤ → Result (ℤ × RestOfLine) FormFault
integer_within low high line p None = fault_at line p.0.column Number
integer_within low high line p (Some z) = if int_le low z && int_le z high then Ok (z, p.1) else fault_at line p.0.column Range

abbrev pub integer_in : ℤ → ℤ → RestOfLine → Option (Token × RestOfLine) → Result (ℤ × RestOfLine) FormFault
integer_in low high rest None = fault_at rest.line rest.past Count
integer_in low high rest (Some p) = integer_within low high rest.line p (integer p.0.text)

-- an integer from low to high
unfoldable pub integer_token : ℤ → ℤ → RestOfLine → Result (ℤ × RestOfLine) FormFault
integer_token low high rest = integer_in low high rest (next_token rest)

abbrev pub nothing_in : ℕ → Option (Token × RestOfLine) → Result (Unit {0}) FormFault
nothing_in line None = Ok tt
nothing_in line (Some p) = fault_at line p.0.column Count

-- no token more
unfoldable pub no_token : RestOfLine → Result (Unit {0}) FormFault
no_token rest = nothing_in rest.line (next_token rest)

-- ---- what a function of the code gives, seen by view, is what reading gives

abbrev pub Gives : {X Y E : Type 0} → (X → Y) → Result X E → Result Y E → Type 0
Gives view (Ok x) read = read ≡ Ok (view x)
Gives view (Err e) read = read ≡ Err e
