-- The grammar of the input text: which bytes are the input of which matrix and generators.
use Rattle.std.specs.Prelude.{◌≡◌, ℕ, List, [], ◌∷◌, ◌++◌, length, map, slice_index_or, codes, pos}
use Rattle.std.specs.List.{range_with_len}
use Rattle.std.proofs.Math.IntN.{neg_ℤ}
use Rattle.git_defs.specs.Vectors.{Vector, HasRank, HasZeroSum}
use Rattle.git_grading.specs.Gradings.{Degrees}
use Rattle.git_algebra.specs.Polynomials.{Polynomial}
use Rattle.git_poly.specs.Degrees.{IsHomogeneous}
use Rattle.git_input.specs.Inputs.{InputValue}
use Rattle.git_polytext.specs.Grammar.{IsPolynomialLine}
use Rattle.git_lines.specs.Lines.{lines_of, content}
use Rattle.git_lines.specs.Tokens.{words}
use Rattle.git_lines.specs.Grammar.{Together, IsInteger}
use Rattle.git_limits.specs.declared.TheConstants.{ROWS, COLUMNS, COLUMN_ENTRY, GENERATORS}

-- ---- a line

-- the first line, with the version of the text: `gitfan 1`
abbrev pub IsHeader : List ℕ → Type 0
IsHeader line = words line ≡ codes "gitfan" ∷ codes "1" ∷ []

-- `grading K R`, with K from 1 to 6 and R from 1 to 16
pub record IsSizes (line : List ℕ) (k r : ℕ) : Type 0 where
  pub rank : List ℕ
  pub size : List ℕ
  pub is : words line ≡ codes "grading" ∷ rank ∷ size ∷ []
  pub rank_is : IsInteger (pos 1) (pos ROWS) rank (pos k)
  pub size_is : IsInteger (pos 1) (pos COLUMNS) size (pos r)

-- a row of the matrix: R integers from -1000 to 1000
pub record IsRow (r : ℕ) (line : List ℕ) (row : Vector) : Type 0 where
  pub entries : Together (IsInteger (neg_ℤ (pos COLUMN_ENTRY)) (pos COLUMN_ENTRY)) (words line) row
  pub size : length row ≡ r

-- `ideal M`, with M from 0 to 64
pub record IsIdeal (line : List ℕ) (m : ℕ) : Type 0 where
  pub count : List ℕ
  pub is : words line ≡ codes "ideal" ∷ count ∷ []
  pub count_is : IsInteger (pos 0) (pos GENERATORS) count (pos m)

-- the last line: `end`
abbrev pub IsEnd : List ℕ → Type 0
IsEnd line = words line ≡ codes "end" ∷ []

-- ---- the lines of the matrix

-- the column at place j of a matrix given by its rows
abbrev pub column_of : List Vector → ℕ → Vector
column_of rows j = map (λ row. slice_index_or row j (pos 0)) rows

-- the first r columns of a matrix given by its rows
abbrev pub columns_of : ℕ → List Vector → List Vector
columns_of r rows = map (column_of rows) (range_with_len 0 r)

-- the lines are those of the sizes and the rows of this matrix, which has full rank and a pointed cone
pub record IsMatrixText (matrix_lines : List (List ℕ)) (d : Degrees) : Type 0 where
  pub sizes : List ℕ
  pub rows : List (List ℕ)
  pub values : List Vector
  pub lines : matrix_lines ≡ sizes ∷ rows
  pub sizes_are : IsSizes sizes d.k (length d.columns)
  pub rows_are : Together (IsRow (length d.columns)) rows values
  pub all_rows : length values ≡ d.k
  pub columns_are : d.columns ≡ columns_of (length d.columns) values
  pub rank : HasRank d.k d.columns
  pub pointed : HasZeroSum d.k d.columns → ⊥

-- ---- the whole text

-- the line of a generator: a polynomial in the variables of the matrix, whose monomials have one degree
pub record IsGenerator (d : Degrees) (line : List ℕ) (p : Polynomial) : Type 0 where
  pub is : IsPolynomialLine (length d.columns) line p
  pub homogeneous : IsHomogeneous d.k d.columns p

-- the lines of a text, without their ends
abbrev pub contents_of : List ℕ → List (List ℕ)
contents_of bytes = map content (lines_of bytes)

-- the lines up to `end` are the text of this input
pub record IsInputFront (front : List (List ℕ)) (v : InputValue) : Type 0 where
  pub header : List ℕ
  pub matrix_lines : List (List ℕ)
  pub ideal : List ℕ
  pub polynomials : List (List ℕ)
  pub end : List ℕ
  pub lines : front ≡ header ∷ matrix_lines ++ (ideal ∷ polynomials ++ (end ∷ []))
  pub header_is : IsHeader header
  pub matrix : IsMatrixText matrix_lines v.degrees
  pub ideal_is : IsIdeal ideal (length v.generators)
  pub polynomials_are : Together (IsGenerator v.degrees) polynomials v.generators
  pub end_is : IsEnd end

-- the bytes are the text of this input
abbrev pub IsInput : List ℕ → InputValue → Type 0
IsInput bytes v = IsInputFront (contents_of bytes) v
