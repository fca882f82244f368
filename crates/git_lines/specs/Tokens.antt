-- The tokens of a line.
use Rattle.std.specs.Prelude.{ℕ, ◌+◌, ◌==◌, ◌&&◌, ◌||◌, Bool, true, false, not, if◌then◌else◌, List, [], ◌∷◌, length, map, Option, Some, None}
use Rattle.git_lines.specs.declared.tokens.Joining.{Joining}
use Rattle.git_lines.specs.declared.tokens.Joining.TheVariants.{Words, Signs}
use Rattle.git_lines.specs.Numbers.{is_digit}

-- a token, and the column of its first byte
pub record Token : Type 0 where
  pub column : ℕ
  pub text : List ℕ

-- a byte and the byte after it belong to one token: spaces belong to none
abbrev pub stays : (ℕ → ℕ → Bool) → ℕ → ℕ → Bool
stays joins b c = not (c == 32) && joins b c

-- the byte's token goes on in the bytes after it
abbrev pub goes_on : (ℕ → ℕ → Bool) → ℕ → List ℕ → Bool
goes_on joins b [] = false
goes_on joins b (c ∷ bytes) = stays joins b c

-- the byte goes before the first token, which then begins at this column
abbrev pub grown : ℕ → ℕ → List Token → List Token
grown column b [] = record { column = column; text = b ∷ [] } ∷ []
grown column b (t ∷ ts) = record { column = column; text = b ∷ t.text } ∷ ts

-- the tokens of a text whose first byte has this column: the longest runs of bytes other than the space in which each two neighbours join
abbrev pub tokens_by : (ℕ → ℕ → Bool) → ℕ → List ℕ → List Token
tokens_by joins column [] = []
tokens_by joins column (b ∷ bytes) =
    if b == 32 then tokens_by joins (column + 1) bytes
    else if goes_on joins b bytes then grown column b (tokens_by joins (column + 1) bytes)
    else record { column = column; text = b ∷ [] } ∷ tokens_by joins (column + 1) bytes

-- which neighbours join: in words all, in signs two digits, and `T` and the bracket after it
abbrev pub joins_in : Joining → ℕ → ℕ → Bool
joins_in Words b c = true
joins_in Signs b c = (is_digit b && is_digit c) || (b == 84 && c == 40)

-- what is left of a line: its number, the column one past its end, and its tokens
pub record RestOfLine : Type 0 where
  pub line : ℕ
  pub past : ℕ
  pub tokens : List Token

-- the tokens of a text that stands in a line from a column on
abbrev pub rest_from : Joining → ℕ → ℕ → List ℕ → RestOfLine
rest_from joining line column text = record { line = line; past = column + length text; tokens = tokens_by (joins_in joining) column text }

-- the words of a whole line
abbrev pub rest_of_line : ℕ → List ℕ → RestOfLine
rest_of_line line text = rest_from Words line 1 text

abbrev pub taken_of : RestOfLine → List Token → Option (Token × RestOfLine)
taken_of rest [] = None
taken_of rest (t ∷ ts) = Some (t, record { line = rest.line; past = rest.past; tokens = ts })

-- the next token, and what is left after it
unfoldable pub next_token : RestOfLine → Option (Token × RestOfLine)
next_token rest = taken_of rest rest.tokens

-- the tokens without their places
abbrev pub texts : List Token → List (List ℕ)
texts ts = map (λ t. t.text) ts

-- the words of a line without their places
abbrev pub words : List ℕ → List (List ℕ)
words line = texts (tokens_by (joins_in Words) 1 line)
