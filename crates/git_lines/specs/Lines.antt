-- The lines of a text.
use Rattle.std.specs.Prelude.{ℕ, ◌+◌, ◌-◌, ◌≤◌, ◌==◌, Bool, not, if◌then◌else◌, List, [], ◌∷◌, ◌++◌, length, map, take, drop, slice_index}

-- the byte goes before the first line
abbrev pub onto_first : ℕ → List (List ℕ) → List (List ℕ)
onto_first b [] = (b ∷ []) ∷ []
onto_first b (line ∷ lines) = (b ∷ line) ∷ lines

-- the lines, each with its line feed; the last may lack it
abbrev pub lines_of : List ℕ → List (List ℕ)
lines_of [] = []
lines_of (b ∷ bytes) = if b == 10 then (b ∷ []) ∷ lines_of bytes else onto_first b (lines_of bytes)

-- the bytes without the last, if that is b
abbrev pub without_last : ℕ → List ℕ → List ℕ
without_last b bytes = if slice_index bytes (length bytes - 1) == b then take (length bytes - 1) bytes else bytes

-- a line without its end: a line feed, and one carriage return before it
abbrev pub content : List ℕ → List ℕ
content line = without_last 13 (without_last 10 line)

-- the line ends with a line feed
abbrev pub is_ended : List ℕ → Bool
is_ended line = slice_index line (length line - 1) == 10

-- the bytes with a line feed after them
abbrev pub ended : List ℕ → List ℕ
ended bytes = bytes ++ 10 ∷ []

abbrev pub no_line_feed : ℕ → Bool
no_line_feed b = not (b == 10)

-- what is left of a text: its lines, and the number of the first of them
pub record RestOfText : Type 0 where
  pub line : ℕ
  pub lines : List (List ℕ)

-- what is left of a text from a byte on, which begins a line of this number
abbrev pub text_from : ℕ → ℕ → List ℕ → RestOfText
text_from line at bytes = record { line = line; lines = lines_of (drop at bytes) }

-- a line without its end, and its number
pub record NumberedLine : Type 0 where
  pub number : ℕ
  pub text : List ℕ

-- the lines that are left, without their ends
abbrev pub contents : RestOfText → List (List ℕ)
contents text = map content text.lines

-- the column of a byte of a line of so many bytes, or the one past its end
abbrev pub IsColumnOf : ℕ → ℕ → Type 0
IsColumnOf size column = (1 ≤ column) × (column ≤ size + 1)
