-- Reading a line with single spaces, field by field: a value and what is left, or the first fault. Faults name the line alone.
use Rattle.std.specs.Prelude.{◌≡◌, ℕ, ◌+◌, ◌&&◌, if◌then◌else◌, List, [], ◌∷◌, ℤ, Option, Some, None, Result, Ok, Err, int_le}
use Rattle.std.specs.Str.{bytes_eq}
use Rattle.git_lines.specs.declared.fault.FormFault.{FormFault}
use Rattle.git_lines.specs.declared.fault.FormKind.TheVariants.{Number, Count, Range, Syntax}
use Rattle.git_lines.specs.Numbers.{integer_once}
use Rattle.git_lines.specs.Strict.{fields}
use Rattle.git_lines.specs.Reading.{◌>>=◌, fault_at}

-- what is left of a line: its number and its fields
pub record RestOfFields : Type 0 where
  pub line : ℕ
  pub fields : List (List ℕ)

-- an empty line has no field
abbrev pub fields_of : List ℕ → List (List ℕ)
fields_of [] = []
fields_of (b ∷ bytes) = fields (b ∷ bytes)

abbrev pub fields_in : ℕ → List ℕ → RestOfFields
fields_in line text = record { line = line; fields = fields_of text }

-- an empty field is a stray space
abbrev pub next_field_at : ℕ → List (List ℕ) → Result (List ℕ × RestOfFields) FormFault
next_field_at line [] = fault_at line 1 Count
next_field_at line ([] ∷ ts) = fault_at line 1 Syntax
next_field_at line ((b ∷ t) ∷ ts) = Ok (b ∷ t, record { line = line; fields = ts })

unfoldable pub next_field : RestOfFields → Result (List ℕ × RestOfFields) FormFault
next_field rest = next_field_at rest.line rest.fields

-- the needed word
unfoldable pub word_field : List ℕ → RestOfFields → Result RestOfFields FormFault
word_field word rest = do
  f ← next_field rest
  if bytes_eq f.0 word then Ok f.1 else fault_at f.1.line 1 Syntax

abbrev pub integer_within : ℤ → ℤ → ℕ → RestOfFields → Option ℤ → Result (ℤ × RestOfFields) FormFault
integer_within low high line rest None = fault_at line 1 Number
integer_within low high line rest (Some z) = if int_le low z && int_le z high then Ok (z, rest) else fault_at line 1 Range

-- an integer from low to high in its one spelling
unfoldable pub integer_field : ℤ → ℤ → RestOfFields → Result (ℤ × RestOfFields) FormFault
integer_field low high rest = do
  f ← next_field rest
  integer_within low high f.1.line f.1 (integer_once f.0)

abbrev pub no_field_at : ℕ → List (List ℕ) → Result (Unit {0}) FormFault
no_field_at line [] = Ok tt
no_field_at line ([] ∷ ts) = fault_at line 1 Syntax
no_field_at line ((b ∷ t) ∷ ts) = fault_at line 1 Count

-- no field more
unfoldable pub no_field : RestOfFields → Result (Unit {0}) FormFault
no_field rest = no_field_at rest.line rest.fields
