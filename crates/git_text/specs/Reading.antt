-- Reading an input from left to right: a value, or the first fault.
use Rattle.std.specs.Prelude.{◌≡◌, ℕ, ◌-◌, List, length, codes, pos, Option, Some, None, Result, Ok, Err, unsigned_abs}
use Rattle.std.proofs.Math.IntN.{neg_ℤ}
use Rattle.git_defs.specs.Vectors.{Vector, HasRank, HasZeroSum}
use Rattle.git_grading.specs.Gradings.{Degrees}
use Rattle.git_lines.specs.declared.fault.FormFault.{FormFault}
use Rattle.git_lines.specs.declared.fault.FormKind.TheVariants as form
use Rattle.git_lines.specs.Lines.{RestOfText, lines_of}
use Rattle.git_lines.specs.Tokens.{rest_of_line}
use Rattle.git_lines.specs.Reading.{◌>>=◌, lift, times, next_line, line_by, no_line, word_token, integer_token, no_token}
use Rattle.git_text.specs.declared.fault.BadKind.{BadKind}
use Rattle.git_text.specs.declared.fault.BadKind.TheVariants.{Rank, Pointed, Homogeneous}
use Rattle.git_text.specs.declared.fault.InputFault.{InputFault}
use Rattle.git_text.specs.declared.fault.InputFault.TheVariants.{Bad}
use Rattle.git_algebra.specs.Exponents.{Exponents}
use Rattle.git_algebra.specs.Polynomials.{Polynomial}
use Rattle.git_polytext.specs.Reading.{polynomial_line}
use Rattle.git_text.specs.Faults.{form_bad, polynomial_bad, as_input}
use Rattle.git_text.specs.OneDegree.{apart}
use Rattle.git_text.specs.Grammar.{columns_of}
use Rattle.git_input.specs.Inputs.{InputValue}
use Rattle.git_limits.specs.declared.TheConstants.{ROWS, COLUMNS, COLUMN_ENTRY, GENERATORS}

-- ---- a line, by its number and its bytes

unfoldable pub header_words : ℕ → List ℕ → Result (Unit {0}) FormFault
header_words line text = do
  a ← word_token (codes "gitfan") (rest_of_line line text)
  b ← word_token (codes "1") a
  no_token b

-- whatever is wrong with the first line, it is not that of the format
abbrev pub as_header : ℕ → FormFault → FormFault
as_header line fault = record { line = line; column = 1; kind = form.Header }

-- the line of the format
unfoldable pub header_line : ℕ → List ℕ → Result (Unit {0}) FormFault
header_line line text = lift (as_header line) (header_words line text)

-- the line of the two sizes
unfoldable pub sizes_line : ℕ → List ℕ → Result (ℕ × ℕ) FormFault
sizes_line line text = do
  a ← word_token (codes "grading") (rest_of_line line text)
  k ← integer_token (pos 1) (pos ROWS) a
  r ← integer_token (pos 1) (pos COLUMNS) k.1
  b ← no_token r.1
  Ok (unsigned_abs k.0, unsigned_abs r.0)

-- a row of r entries
unfoldable pub row_line : ℕ → ℕ → List ℕ → Result Vector InputFault
row_line r line text = do
  entries ← as_input (times (integer_token (neg_ℤ (pos COLUMN_ENTRY)) (pos COLUMN_ENTRY)) r (rest_of_line line text))
  b ← as_input (no_token entries.1)
  Ok entries.0

-- the line of the number of generators
unfoldable pub ideal_line : ℕ → List ℕ → Result ℕ FormFault
ideal_line line text = do
  a ← word_token (codes "ideal") (rest_of_line line text)
  m ← integer_token (pos 0) (pos GENERATORS) a
  b ← no_token m.1
  Ok (unsigned_abs m.0)

-- the line of the end
unfoldable pub end_line : ℕ → List ℕ → Result (Unit {0}) FormFault
end_line line text = do
  a ← word_token (codes "end") (rest_of_line line text)
  no_token a

-- ---- the lines up to the last row

-- the next line, read whole; where it is not there, that is a fault of form
abbrev pub form_by : {A : Type 0} → (ℕ → List ℕ → Result A FormFault) → RestOfText → Result (A × RestOfText) FormFault
form_by read text = line_by next_line (λ f. f) read text

abbrev pub next_by : {A : Type 0} → (ℕ → List ℕ → Result A InputFault) → RestOfText → Result (A × RestOfText) InputFault
next_by read text = line_by next_line form_bad read text

-- the two lines before the rows
unfoldable pub sizes_at : RestOfText → Result ((ℕ × ℕ) × RestOfText) FormFault
sizes_at text = do
  header ← form_by header_line text
  form_by sizes_line header.1

-- the k rows, of r entries each
abbrev pub rows_at : ℕ → ℕ → RestOfText → Result (List Vector × RestOfText) InputFault
rows_at k r text = times (next_by (row_line r)) k text

-- the columns of these rows
unfoldable pub columns_at : ℕ → ℕ → RestOfText → Result (List Vector × RestOfText) InputFault
columns_at k r text = do
  rows ← rows_at k r text
  Ok (columns_of r rows.0, rows.1)

-- the matrix, whatever its rank and its cone are
unfoldable pub matrix_at : RestOfText → Result (Degrees × RestOfText) InputFault
matrix_at text = do
  sizes ← as_input (sizes_at text)
  columns ← columns_at sizes.0.0 sizes.0.1 sizes.1
  Ok (record { k = sizes.0.0; columns = columns.0 }, columns.1)

-- what is found of a matrix: it may grade, too few of its columns are independent, or a sum of them is 0
pub data Verdict : Type 0 where
  grades : Verdict
  low_rank : Verdict
  unpointed : Verdict

-- rank comes before pointedness
abbrev pub IsVerdict : Degrees → Verdict → Type 0
IsVerdict d grades = HasRank d.k d.columns × (HasZeroSum d.k d.columns → ⊥)
IsVerdict d low_rank = HasRank d.k d.columns → ⊥
IsVerdict d unpointed = HasRank d.k d.columns × HasZeroSum d.k d.columns

-- the matrix, or a fault at the first byte of its last row
abbrev pub judged_by : Verdict → ℕ → Degrees → Result Degrees InputFault
judged_by grades line d = Ok d
judged_by low_rank line d = Err (Bad line 1 Rank)
judged_by unpointed line d = Err (Bad line 1 Pointed)

-- the matrix whose last row has this line, as it is judged
pub record JudgesMatrix (line : ℕ) (d : Degrees) (read : Result Degrees InputFault) : Type 0 where
  pub verdict : Verdict
  pub right : IsVerdict d verdict
  pub is : read ≡ judged_by verdict line d

-- what was read of the matrix, and then judged
pub record JudgesGrading (matrix : Degrees × RestOfText) (read : Result (Degrees × RestOfText) InputFault) : Type 0 where
  pub judged : Result Degrees InputFault
  pub judges : JudgesMatrix (matrix.1.line - 1) matrix.0 judged
  pub is : read ≡ (judged >>= λ d. Ok (d, matrix.1))

abbrev pub JudgesRead : Result (Degrees × RestOfText) InputFault → Result (Degrees × RestOfText) InputFault → Type 0
JudgesRead (Err fault) read = read ≡ Err fault
JudgesRead (Ok matrix) read = JudgesGrading matrix read

-- the lines up to the last row, whose matrix is judged then
abbrev pub ReadsGrading : RestOfText → Result (Degrees × RestOfText) InputFault → Type 0
ReadsGrading text read = JudgesRead (matrix_at text) read

-- ---- the lines after the matrix

-- the polynomial's monomials have one degree, or the fault is at the line's first byte
abbrev pub homogeneous_by : ℕ → ℕ → Option (Exponents × Exponents) → Result (Unit {0}) InputFault
homogeneous_by line number None = Ok tt
homogeneous_by line number (Some pair) = Err (Bad line 1 (Homogeneous number pair.0 pair.1))

-- the line of a generator, where the line of the number of generators is numbered before
unfoldable pub generator_line : Degrees → ℕ → ℕ → List ℕ → Result Polynomial InputFault
generator_line d before line text = do
  p ← lift polynomial_bad (polynomial_line (length d.columns) line text)
  one_degree ← homogeneous_by line (line - before) (apart d p.terms)
  Ok p

-- the generators, and the line of their number before them
unfoldable pub generators_at : Degrees → RestOfText → Result (List Polynomial × RestOfText) InputFault
generators_at d text = do
  count ← as_input (form_by ideal_line text)
  times (next_by (generator_line d text.line)) count.0 count.1

-- the lines after the matrix up to `end`
unfoldable pub rest_at : Degrees → RestOfText → Result (InputValue × RestOfText) InputFault
rest_at d text = do
  generators ← generators_at d text
  last ← as_input (form_by end_line generators.1)
  Ok (record { degrees = d; generators = generators.0 }, last.1)

-- ---- the text

-- the input up to the line `end`, and what is left after it
pub record ReadsFront (text : RestOfText) (read : Result (InputValue × RestOfText) InputFault) : Type 0 where
  pub matrix : Result (Degrees × RestOfText) InputFault
  pub reads : ReadsGrading text matrix
  pub is : read ≡ (matrix >>= λ m. rest_at m.0 m.1)

-- no line more
unfoldable pub nothing_after : InputValue × RestOfText → Result InputValue InputFault
nothing_after front = do
  nothing ← as_input (no_line front.1)
  Ok front.0

abbrev pub whole_text : List ℕ → RestOfText
whole_text bytes = record { line = 1; lines = lines_of bytes }

-- what reading the bytes from left to right gives: their input, or their first fault
pub record Reads (bytes : List ℕ) (read : Result InputValue InputFault) : Type 0 where
  pub front : Result (InputValue × RestOfText) InputFault
  pub reads : ReadsFront (whole_text bytes) front
  pub is : read ≡ (front >>= nothing_after)

-- the first fault of the bytes: its line, its column and its kind
abbrev pub IsFirstFault : List ℕ → ℕ → ℕ → BadKind → Type 0
IsFirstFault bytes line column kind = Reads bytes (Err (Bad line column kind))

abbrev pub second_size : Result ((ℕ × ℕ) × RestOfText) FormFault → ℕ
second_size (Ok sizes) = sizes.0.1
second_size (Err fault) = 0

-- the number of variables that the second line announces, or 0
abbrev pub variables_in : List ℕ → ℕ
variables_in bytes = second_size (sizes_at (whole_text bytes))
