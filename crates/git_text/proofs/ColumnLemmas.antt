-- Columns of a matrix given by its rows.
use Rattle.std.proofs.Common.{◌≡◌, ℕ, zero, suc, ◌+◌, ◌<◌, List, [], ◌∷◌, ◌++◌, length, take, set, get_or, refl, sym, ap, ◌∙◌, arith}
use Rattle.std.proofs.Math.IntN.{pos, ℤ}
use Rattle.std.proofs.lemmas.List.{take_more, take_more_set}
use Rattle.git_defs.specs.Vectors.{Vector}
use Rattle.git_text.specs.declared.rows.Row.{Row}
use Rattle.git_text.specs.Grammar.{column_of}
use Rattle.git_text.specs.Views.{row_of, rows_of}

pub entry_at : (rows : List Row) (row : Row) (i j : ℕ) → i < length rows → row ≡ get_or rows i row → get_or (column_of (rows_of rows) j) i (pos 0) ≡ get_or (row_of row) j (pos 0)
entry_at [] row i j lt is = absurd (omega arith)
entry_at (x ∷ rows) row zero j lt is = ap (λ r. get_or (row_of r) j (pos 0)) (sym is)
entry_at (x ∷ rows) row (suc i) j lt is = entry_at rows row i j (omega arith) is

pub length-column : (rows : List Row) (j : ℕ) → length (column_of (rows_of rows) j) ≡ length rows
length-column [] j = refl
length-column (x ∷ rows) j = ap suc (length-column rows j)

-- one entry more is written
pub one_more : (entries column : Vector) (i : ℕ) (z : ℤ) → i < length entries → i < length column → take i entries ≡ take i column → z ≡ get_or column i (pos 0)
    → take (i + 1) (set entries i z) ≡ take (i + 1) column
one_more entries column i z lt few before is =
    take_more_set entries i z lt ∙ (λ t. before t ++ is t ∷ []) ∙ sym (take_more column i (pos 0) few)
