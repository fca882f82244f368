-- The parts of a text between separators.
use Rattle.std.specs.Prelude.{ℕ, ◌+◌, ◌==◌, ◌||◌, Bool, if◌then◌else◌, List, [], ◌∷◌, Option, Some, None}
use Rattle.git_lines.specs.declared.parts.Separator.{Separator}
use Rattle.git_lines.specs.declared.parts.Separator.TheVariants.{Space, Star, PlusOrMinus}

-- what stands between two separators: the one before it, if any, the column of its first byte, and its bytes
pub record Part : Type 0 where
  pub separator : Option ℕ
  pub column : ℕ
  pub text : List ℕ

-- the byte goes before the first part, which then begins at this column
abbrev pub grown_part : ℕ → ℕ → List Part → List Part
grown_part column b [] = []
grown_part column b (p ∷ ps) = record { separator = p.separator; column = column; text = b ∷ p.text } ∷ ps

-- the parts between the bytes that end one; the first comes after the separator that is given
abbrev pub parts_by : (ℕ → Bool) → Option ℕ → ℕ → List ℕ → List Part
parts_by ends separator column [] = record { separator = separator; column = column; text = [] } ∷ []
parts_by ends separator column (b ∷ bytes) =
    if ends b then record { separator = separator; column = column; text = [] } ∷ parts_by ends (Some b) (column + 1) bytes
    else grown_part column b (parts_by ends separator (column + 1) bytes)

-- which bytes separate
abbrev pub separates : Separator → ℕ → Bool
separates Space b = b == 32
separates Star b = b == 42
separates PlusOrMinus b = b == 43 || b == 45

-- the parts of a text whose first byte has this column
abbrev pub parts : Separator → ℕ → List ℕ → List Part
parts by column text = parts_by (separates by) None column text

-- the parts that are left, if any
abbrev pub parts_left : Bool → (ℕ → Bool) → Option ℕ → ℕ → List ℕ → List Part
parts_left more ends separator column bytes = if more then parts_by ends separator column bytes else []
