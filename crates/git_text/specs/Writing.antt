-- The text of an input, as it is written.
use Rattle.std.specs.Prelude.{ℕ, List, [], ◌∷◌, ◌++◌, length, map, slice_index_or, codes, pos}
use Rattle.std.specs.List.{concat, range_with_len}
use Rattle.std.specs.Fmt.{decimal, signed_decimal}
use Rattle.git_lines.specs.Lines.{ended}
use Rattle.git_lines.specs.Printing.{spaced}
use Rattle.git_defs.specs.Vectors.{Vector}
use Rattle.git_polytext.specs.Printing.{polynomial_text}
use Rattle.git_input.specs.Inputs.{InputValue}

-- the row at place i of the matrix with these columns
abbrev pub row_of_columns : List Vector → ℕ → Vector
row_of_columns columns i = map (λ column. slice_index_or column i (pos 0)) columns

abbrev pub row_line_text : List Vector → ℕ → List ℕ
row_line_text columns i = spaced (map signed_decimal (row_of_columns columns i))

-- the lines: one space between words, and none in polynomials
abbrev pub input_lines : InputValue → List (List ℕ)
input_lines v =
    spaced (codes "gitfan" ∷ codes "1" ∷ []) ∷ spaced (codes "grading" ∷ decimal v.degrees.k ∷ decimal (length v.degrees.columns) ∷ [])
    ∷ map (row_line_text v.degrees.columns) (range_with_len 0 v.degrees.k)
    ++ (spaced (codes "ideal" ∷ decimal (length v.generators) ∷ []) ∷ map polynomial_text v.generators ++ (codes "end" ∷ []))

-- a line feed after each line
abbrev pub input_text : InputValue → List ℕ
input_text v = concat (map ended (input_lines v))
