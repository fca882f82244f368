-- The matrix that is read is within the limits, and is the one that the grammar gives.
use Rattle.std.proofs.Common.{◌≡◌, ℕ, zero, suc, ◌<◌, ◌≤◌, List, [], ◌∷◌, length, get_or, Ok, sym, ap, ◌∙◌, subst, All, arith}
use Rattle.std.specs.Prelude.{ℤ, pos, unsigned_abs}
use Rattle.std.proofs.Math.IntN.{neg_ℤ}
use Rattle.std.proofs.lemmas.Int.{ints}
use Rattle.std.proofs.lemmas.List.{length-map}
use Rattle.std.proofs.lemmas.List.FromFn.{length-map-range_with_len, get_or-map-range_with_len}
use Rattle.git_defs.specs.Vectors.{Vector, AllOfLength}
use Rattle.git_ints.specs.Padded.{AreWithin}
use Rattle.git_grading.specs.Gradings.{Degrees, IsMatrix, IsGrading}
use Rattle.git_lines.specs.Lines.{RestOfText}
use Rattle.git_lines.specs.Grammar.{Together, IsInteger}
use Rattle.git_text.specs.declared.rows.Row.{Row}
use Rattle.git_text.specs.Grammar.{IsRow, IsMatrixText, column_of, columns_of}
use Rattle.git_text.specs.Reading.{rows_at}
use Rattle.git_text.specs.Views.{row_of, rows_of}
use Rattle.git_text.proofs.ExactText.{rows_take}

-- ---- entries

within : (token : List ℕ) (z : ℤ) → IsInteger (neg_ℤ (pos 1000)) (pos 1000) token z → unsigned_abs z ≤ 1000
within token z i = omega (arith, ints, i.above, i.below)

row_within : (tokens : List (List ℕ)) (row : Vector) (j : ℕ) → Together (IsInteger (neg_ℤ (pos 1000)) (pos 1000)) tokens row → unsigned_abs (get_or row j (pos 0)) ≤ 1000
row_within tokens [] j h = omega arith
row_within [] (z ∷ row) j h = absurd h
row_within (t ∷ tokens) (z ∷ row) zero h = within t z h.0
row_within (t ∷ tokens) (z ∷ row) (suc j) h = row_within tokens row j h.1

column_within : (r : ℕ) (rows : List (List ℕ)) (values : List Vector) (j i : ℕ) (d : ℤ) → Together (IsRow r) rows values → i < length values
    → unsigned_abs (get_or (column_of values j) i d) ≤ 1000
column_within r rows [] j i d h lt = absurd (omega arith)
column_within r [] (row ∷ values) j i d h lt = absurd h
column_within r (line ∷ rows) (row ∷ values) j zero d h lt = row_within _ row j h.0.entries
column_within r (line ∷ rows) (row ∷ values) j (suc i) d h lt = column_within r rows values j i d h.1 (omega arith)

length-column_of : (values : List Vector) (j : ℕ) → length (column_of values j) ≡ length values
length-column_of values j = length-map values _

-- ---- columns

at_column : (r : ℕ) (values : List Vector) (i : ℕ) (d : Vector) → i < length (columns_of r values) → get_or (columns_of r values) i d ≡ column_of values i
at_column r values i d lt =
    let few : i < r = omega (arith, lt, length-map-range_with_len (column_of values) 0 r) in
    get_or-map-range_with_len (column_of values) 0 r i i d few (omega arith)

pub lengths_are : (k r : ℕ) (values : List Vector) → length values ≡ k → AllOfLength k (columns_of r values)
lengths_are k r values size i d lt = ap length (at_column r values i d lt) ∙ length-column_of values i ∙ size

entries_are : (r : ℕ) (rows : List (List ℕ)) (values : List Vector) → Together (IsRow r) rows values → All (AreWithin 1000) (columns_of r values)
entries_are r rows values h i d lt =
    subst (λ (v : Vector). AreWithin 1000 v) (sym (at_column r values i d lt))
    (λ n e few. column_within r rows values i n e h (omega (arith, few, length-column_of values i)))

pub matrix_is : (k r : ℕ) (s after : RestOfText) (values : List Vector) → rows_at k r s ≡ Ok (values, after) → 1 ≤ k → k ≤ 6 → 1 ≤ r → r ≤ 16 → IsMatrix k (columns_of r values)
matrix_is k r s after values e some_rows few_rows some_columns few_columns =
    let t = rows_take s after k r values e in
    let size : length (columns_of r values) ≡ r = length-map-range_with_len (column_of values) 0 r in
    record {
      some_rows = some_rows;
      few_rows = few_rows;
      some_columns = omega (arith, size, some_columns);
      few_columns = omega (arith, size, few_columns);
      lengths = lengths_are k r values t.all_rows;
      entries = entries_are r t.rows values t.rows_are;
    }

-- the matrix of a text is a grading
pub text_is_a_grading : (lines : List (List ℕ)) (d : Degrees) → IsMatrixText lines d → IsGrading d.k d.columns
text_is_a_grading lines d t =
    let same : (P : List Vector → Type 0) → P (columns_of (length d.columns) t.values) → P d.columns = λ P. subst P (sym t.columns_are) in
    record {
      matrix = record {
        some_rows = omega (arith, ints, t.sizes_are.rank_is.above);
        few_rows = omega (arith, ints, t.sizes_are.rank_is.below);
        some_columns = omega (arith, ints, t.sizes_are.size_is.above);
        few_columns = omega (arith, ints, t.sizes_are.size_is.below);
        lengths = same (AllOfLength d.k) (lengths_are d.k (length d.columns) t.values t.all_rows);
        entries = same (All (AreWithin 1000)) (entries_are (length d.columns) t.rows t.values t.rows_are);
      };
      rank = t.rank;
      pointed = t.pointed;
    }

-- ---- the rows as the code has them

pub count_is : (k r : ℕ) (s after : RestOfText) (rows : List Row) → rows_at k r s ≡ Ok (rows_of rows, after) → length rows ≡ k
count_is k r s after rows e = sym (length-map rows row_of) ∙ (rows_take s after k r (rows_of rows) e).all_rows

wide : (r : ℕ) (lines : List (List ℕ)) (rows : List Row) → Together (IsRow r) lines (rows_of rows) → All (λ row. length (row_of row) ≡ r) rows
wide r lines [] h i d lt = absurd (omega arith)
wide r [] (row ∷ rows) h i d lt = absurd h
wide r (l ∷ lines) (row ∷ rows) h zero d lt = h.0.size
wide r (l ∷ lines) (row ∷ rows) h (suc i) d lt = wide r lines rows h.1 i d (omega arith)

pub are_wide : (k r : ℕ) (s after : RestOfText) (rows : List Row) → rows_at k r s ≡ Ok (rows_of rows, after) → All (λ row. length (row_of row) ≡ r) rows
are_wide k r s after rows e = let t = rows_take s after k r (rows_of rows) e in wide r t.rows rows t.rows_are
