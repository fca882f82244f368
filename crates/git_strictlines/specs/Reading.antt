-- Reading lines with one spelling: a value and what is left, or the first fault.
use Rattle.std.specs.Prelude.{ℕ, zero, suc, ◌+◌, ◌-◌, Bool, false, if◌then◌else◌, List, [], ◌∷◌, codes, pos, Result, Ok, Err, unsigned_abs}
use Rattle.std.specs.Str.{bytes_eq}
use Rattle.git_lines.specs.declared.fault.FormFault.{FormFault}
use Rattle.git_lines.specs.declared.fault.FormKind.TheVariants.{Header, Range}
use Rattle.git_lines.specs.Fields.{RestOfFields, fields_in, next_field, word_field, integer_field, no_field}
use Rattle.git_lines.specs.Lines.{RestOfText, NumberedLine, without_last}
use Rattle.git_lines.specs.Reading.{◌>>=◌, lift, fault_at, line_by, next_ended_line}

-- the next line, read whole by its number and its bytes; it has to end with its line feed
abbrev pub next_by : {A : Type 0} → (ℕ → List ℕ → Result A FormFault) → RestOfText → Result (A × RestOfText) FormFault
next_by read text = line_by next_ended_line (λ f. f) read text

-- ---- lines, by their number and their bytes

-- a word and a number from low to high
unfoldable pub number_line : List ℕ → ℕ → ℕ → ℕ → List ℕ → Result ℕ FormFault
number_line word low high line text = do
  a ← word_field word (fields_in line text)
  n ← integer_field (pos low) (pos high) a
  b ← no_field n.1
  Ok (unsigned_abs n.0)

-- whatever is wrong with the first line, it is not that of the format
abbrev pub as_header : ℕ → FormFault → FormFault
as_header line fault = record { line = line; column = 1; kind = Header }

-- the word of a format and its version, from 1 on
unfoldable pub header_line : List ℕ → ℕ → ℕ → List ℕ → Result ℕ FormFault
header_line format newest line text = lift (as_header line) (number_line format 1 newest line text)

unfoldable pub end_line : ℕ → List ℕ → Result (Unit {0}) FormFault
end_line line text = do
  a ← word_field (codes "end") (fields_in line text)
  no_field a

-- ---- lines that begin with a word

abbrev pub first_is : List ℕ → Result (List ℕ × RestOfFields) FormFault → Bool
first_is word (Ok f) = bytes_eq f.0 word
first_is word (Err e) = false

abbrev pub begins_in : List ℕ → Result (NumberedLine × RestOfText) FormFault → Bool
begins_in word (Ok l) = first_is word (next_field (fields_in l.0.number l.0.text))
begins_in word (Err e) = false

-- the next line is there with its line feed, and its first word is this one
unfoldable pub begins_with : List ℕ → RestOfText → Bool
begins_with word text = begins_in word (next_ended_line text)

-- one more of so many that may still come
abbrev pub one_within : {A : Type 0} → ℕ → (ℕ → List ℕ → Result A FormFault) → ℕ → List ℕ → Result A FormFault
one_within zero read line text = fault_at line 1 Range
one_within (suc limit) read line text = read line text

abbrev pub led : {A : Type 0} → A → List A × RestOfText → Result (List A × RestOfText) FormFault
led a others = Ok (a ∷ others.0, others.1)

-- the lines that begin with the word, as long as they come, at most so many
unfoldable pub many_within : {A : Type 0} → List ℕ → (ℕ → List ℕ → Result A FormFault) → ℕ → ℕ → List (List ℕ) → Result (List A × RestOfText) FormFault
many_within word read limit line [] = Ok ([], record { line = line; lines = [] })
many_within word read limit line (l ∷ ls) =
    if begins_with word (record { line = line; lines = l ∷ ls }) then (do
      a ← one_within limit read line (without_last 10 l)
      others ← many_within word read (limit - 1) (line + 1) ls
      led a others)
    else Ok ([], record { line = line; lines = l ∷ ls })

abbrev pub more_at : {A : Type 0} → List ℕ → (ℕ → List ℕ → Result A FormFault) → ℕ → RestOfText → Result (List A × RestOfText) FormFault
more_at word read limit text = many_within word read limit text.line text.lines

-- one or more lines that begin with the word, at most so many; the one too many is found at its word
unfoldable pub some_at : {A : Type 0} → List ℕ → ℕ → (ℕ → List ℕ → Result A FormFault) → RestOfText → Result (List A × RestOfText) FormFault
some_at word most read text = do
  first ← next_by read text
  others ← more_at word read (most - 1) first.1
  led first.0 others
