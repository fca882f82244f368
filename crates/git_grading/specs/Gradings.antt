-- Gradings: matrices by their columns.
use Rattle.std.specs.Prelude.{ℕ, ◌≤◌, List, length, All}
use Rattle.git_defs.specs.Vectors.{Vector, AllOfLength, HasRank, HasZeroSum}
use Rattle.git_ints.specs.Padded.{AreWithin}
use Rattle.git_limits.specs.declared.TheConstants.{ROWS, COLUMNS, COLUMN_ENTRY}

-- what contracts see of a grading: the number of rows, and the columns, which are the degrees of the variables
pub record Degrees : Type 0 where
  pub k : ℕ
  pub columns : List Vector

-- the sizes within the limits
pub record IsMatrix (k : ℕ) (columns : List Vector) : Type 0 where
  pub some_rows : 1 ≤ k
  pub few_rows : k ≤ ROWS
  pub some_columns : 1 ≤ length columns
  pub few_columns : length columns ≤ COLUMNS
  pub lengths : AllOfLength k columns
  pub entries : All (AreWithin COLUMN_ENTRY) columns

-- a matrix whose columns span, and whose cone is pointed and has no zero generator
pub record IsGrading (k : ℕ) (columns : List Vector) : Type 0 where
  pub matrix : IsMatrix k columns
  pub rank : HasRank k columns
  pub pointed : HasZeroSum k columns → ⊥
