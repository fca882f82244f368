-- Reading a text of weights from left to right: a value, or the first fault.
use Rattle.std.specs.Prelude.{◌≡◌, ℕ, List, codes, pos, Result, Ok, Err, unsigned_abs}
use Rattle.git_defs.specs.Vectors.{Vector}
use Rattle.git_lines.specs.declared.fault.FormFault.{FormFault}
use Rattle.git_lines.specs.declared.fault.FormKind.{FormKind}
use Rattle.git_lines.specs.Lines.{RestOfText}
use Rattle.git_lines.specs.Reading.{◌>>=◌, times, no_line, word_token, integer_token, no_token}
use Rattle.git_lines.specs.Tokens.{RestOfLine, rest_of_line}
use Rattle.git_text.specs.declared.fault.BadKind.{BadKind}
use Rattle.git_text.specs.Faults.{kind_of}
use Rattle.git_text.specs.Reading.{end_line, form_by, whole_text}
use Rattle.git_weights.specs.declared.limits.TheConstants.{WEIGHTS, ENTRY_LOW, ENTRY_HIGH}

-- ---- a line, by its number and its bytes

-- the line of the number of weights
unfoldable pub count_line : ℕ → List ℕ → Result ℕ FormFault
count_line line text = do
  a ← word_token (codes "weights") (rest_of_line line text)
  n ← integer_token (pos 1) (pos WEIGHTS) a
  b ← no_token n.1
  Ok (unsigned_abs n.0)

-- so many entries
abbrev pub entries_at : ℕ → RestOfLine → Result (Vector × RestOfLine) FormFault
entries_at k rest = times (integer_token ENTRY_LOW ENTRY_HIGH) k rest

-- a weight
unfoldable pub weight_line : ℕ → ℕ → List ℕ → Result Vector FormFault
weight_line k line text = do
  v ← entries_at k (rest_of_line line text)
  b ← no_token v.1
  Ok v.0

-- ---- the text

abbrev pub weights_at : ℕ → ℕ → RestOfText → Result (List Vector × RestOfText) FormFault
weights_at k count text = times (form_by (weight_line k)) count text

-- the lines up to `end`
unfoldable pub lines_at : ℕ → RestOfText → Result (List Vector × RestOfText) FormFault
lines_at k text = do
  count ← form_by count_line text
  weights ← weights_at k count.0 count.1
  last ← form_by end_line weights.1
  Ok (weights.0, last.1)

-- the weights, and nothing after them
unfoldable pub whole_at : ℕ → RestOfText → Result (List Vector) FormFault
whole_at k text = do
  weights ← lines_at k text
  nothing ← no_line weights.1
  Ok weights.0

-- what reading the bytes from left to right gives: their weights, or their first fault
abbrev pub reading : ℕ → List ℕ → Result (List Vector) FormFault
reading k bytes = whole_at k (whole_text bytes)

-- the first fault of the bytes: its line, its column and its kind
pub record IsFirstFault (k : ℕ) (bytes : List ℕ) (line column : ℕ) (kind : BadKind) : Type 0 where
  pub form : FormKind
  pub kind_is : kind ≡ kind_of form
  pub is : reading k bytes ≡ Err (record { line = line; column = column; kind = form })
