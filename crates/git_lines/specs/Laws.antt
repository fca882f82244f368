-- What holds of lines, words and integers.
use Rattle.std.specs.Prelude.{◌≡◌, ◌≢◌, ℕ, ◌-◌, ◌<◌, ◌^◌, true, List, [], ◌∷◌, ◌++◌, length, map, filter, slice_index, ℤ, Some}
use Rattle.std.specs.List.{concat, list_all, AllByRecursion}
use Rattle.std.specs.Int.RustNames.{unsigned_abs}
use Rattle.std.specs.Fmt.{signed_decimal}
use Rattle.git_lines.specs.declared.tokens.Joining.{Joining}
use Rattle.git_lines.specs.Grammar.{StandsIn}
use Rattle.git_lines.specs.Lines.{lines_of, content, ended, no_line_feed}
use Rattle.git_lines.specs.Tokens.{words, tokens_by, joins_in}
use Rattle.git_lines.specs.Numbers.{integer, integer_once}
use Rattle.git_lines.specs.Printing.{no_space, IsWord, spaced}
use Rattle.git_lines.specs.Strict.{fields}

-- a text's lines joined are the text
abbrev pub LinesMakeTheText : Type 0
LinesMakeTheText = (bytes : List ℕ) → concat (lines_of bytes) ≡ bytes

-- lines that are written each with a line feed are read back
abbrev pub LinesAreReadBack : Type 0
LinesAreReadBack = (lines : List (List ℕ)) → AllByRecursion (λ l. list_all no_line_feed l ≡ true) lines → lines_of (concat (map ended lines)) ≡ map ended lines

-- a carriage return with a line feed belongs to the line's end
abbrev pub CarriageReturnEndsTheLine : Type 0
CarriageReturnEndsTheLine = (line : List ℕ) → content (line ++ 13 ∷ 10 ∷ []) ≡ line

-- a line feed does, and nothing before it but a carriage return
abbrev pub LineFeedEndsTheLine : Type 0
LineFeedEndsTheLine = (line : List ℕ) → slice_index line (length line - 1) ≢ 13 → content (ended line) ≡ line

-- words that are printed with a space between each two are read back
abbrev pub WordsAreReadBack : Type 0
WordsAreReadBack = (ts : List (List ℕ)) → AllByRecursion IsWord ts → words (spaced ts) ≡ ts

-- each word of a line has bytes, and none is a space
abbrev pub WordsHoldNoSpace : Type 0
WordsHoldNoSpace = (line : List ℕ) → AllByRecursion IsWord (words line)

-- and the words have all bytes of the line that are no spaces, in order
abbrev pub WordsLoseNothing : Type 0
WordsLoseNothing = (line : List ℕ) → concat (words line) ≡ filter no_space line

-- each token stands at its column
abbrev pub TokensStandAtTheirColumns : Type 0
TokensStandAtTheirColumns = (joining : Joining) (column : ℕ) (bytes : List ℕ) → AllByRecursion (StandsIn column bytes) (tokens_by (joins_in joining) column bytes)

-- an integer of at most eighteen digits is read back from its decimal spelling
abbrev pub IntegersAreReadBack : Type 0
IntegersAreReadBack = (z : ℤ) → unsigned_abs z < 10 ^ 18 → integer (signed_decimal z) ≡ Some z

-- so it is where one spelling alone is allowed
abbrev pub IntegersAreReadBackOnce : Type 0
IntegersAreReadBackOnce = (z : ℤ) → unsigned_abs z < 10 ^ 18 → integer_once (signed_decimal z) ≡ Some z

-- and the one spelling is the decimal spelling
abbrev pub IntegersHaveOneSpelling : Type 0
IntegersHaveOneSpelling = (text : List ℕ) (z : ℤ) → integer_once text ≡ Some z → text ≡ signed_decimal z

-- a line is its fields with a space between each two
abbrev pub FieldsMakeTheLine : Type 0
FieldsMakeTheLine = (line : List ℕ) → spaced (fields line) ≡ line

-- one or more words that are printed with a space between each two are the fields of the line
abbrev pub FieldsAreReadBack : Type 0
FieldsAreReadBack = (t : List ℕ) (ts : List (List ℕ)) → AllByRecursion IsWord (t ∷ ts) → fields (spaced (t ∷ ts)) ≡ t ∷ ts
