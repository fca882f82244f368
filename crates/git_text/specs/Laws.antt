-- What holds of inputs.
use Rattle.std.specs.Prelude.{◌≡◌, ◌≢◌, ◌⊎◌, ◌↔◌, ℕ, ◌+◌, ◌-◌, ◌≤◌, List, [], length, take, slice_index_or, Ok, Option, Some, None}
use Rattle.git_algebra.specs.Exponents.{Exponents}
use Rattle.git_algebra.specs.Polynomials.{Polynomial}
use Rattle.git_grading.specs.Gradings.{Degrees, IsGrading}
use Rattle.git_poly.specs.Degrees.{IsHomogeneous, AreApart}
use Rattle.git_text.specs.declared.fault.BadKind.{BadKind}
use Rattle.git_text.specs.declared.fault.InputFault.TheVariants.{Bad}
use Rattle.git_lines.specs.Lines.{IsColumnOf}
use Rattle.git_text.specs.declared.fault.BadKind.TheVariants.{Truncated, Trailing}
use Rattle.git_input.specs.Inputs.{InputValue, AreGenerators}
use Rattle.git_text.specs.Grammar.{IsInput, contents_of}
use Rattle.git_text.specs.Writing.{input_text}
use Rattle.git_text.specs.OneDegree.{apart}
use Rattle.git_text.specs.Reading.{Reads, IsFirstFault}

-- a text is one input at most
abbrev pub OneInput : Type 0
OneInput = (bytes : List ℕ) (v w : InputValue) → IsInput bytes v → IsInput bytes w → v ≡ w

-- the matrix of an input is a grading
abbrev pub InputsAreGraded : Type 0
InputsAreGraded = (bytes : List ℕ) (v : InputValue) → IsInput bytes v → IsGrading v.degrees.k v.degrees.columns

-- what is read from the left is what the grammar says
abbrev pub ReadingIsTheGrammar : Type 0
ReadingIsTheGrammar = (bytes : List ℕ) (v : InputValue) → (Reads bytes (Ok v) ↔ IsInput bytes v)

-- a text has one first fault at most
abbrev pub OneFirstFault : Type 0
OneFirstFault = (bytes : List ℕ) (line column line2 column2 : ℕ) (kind kind2 : BadKind) → IsFirstFault bytes line column kind → IsFirstFault bytes line2 column2 kind2
    → Bad line column kind ≡ Bad line2 column2 kind2

-- the line with this number and the column of a byte of it; or one past the last line, or one past the line's end
pub record IsPlaceIn (lines : List (List ℕ)) (line column : ℕ) : Type 0 where
  pub some_line : 1 ≤ line
  pub few_lines : line ≤ length lines + 1
  pub inside : IsColumnOf (length (slice_index_or lines (line - 1) [])) column

-- a first fault lies in the text
abbrev pub FaultsLieInTheText : Type 0
FaultsLieInTheText = (bytes : List ℕ) (line column : ℕ) (kind : BadKind) → IsFirstFault bytes line column kind → IsPlaceIn (contents_of bytes) line column

-- but for what is missing or too much at the end, the first fault is that of each text with the same lines up to its own
abbrev pub LaterLinesDoNotMatter : Type 0
LaterLinesDoNotMatter = (bytes other : List ℕ) (line column : ℕ) (kind : BadKind) → IsFirstFault bytes line column kind → kind ≢ Truncated → kind ≢ Trailing
    → take line (contents_of bytes) ≡ take line (contents_of other) → IsFirstFault other line column kind

-- an input has none
abbrev pub InputsHaveNoFault : Type 0
InputsHaveNoFault = (bytes : List ℕ) (v : InputValue) (line column : ℕ) (kind : BadKind) → IsInput bytes v → IsFirstFault bytes line column kind → ⊥

-- each text is an input or has a first fault
abbrev pub InputOrFirstFault : Type 0
InputOrFirstFault = (bytes : List ℕ) → ((v : InputValue) × IsInput bytes v) ⊎ ((line : ℕ) × (column : ℕ) × (kind : BadKind) × IsFirstFault bytes line column kind)

-- the monomials that reading finds apart are those of the definition
abbrev pub AreApartAsRead : Degrees → Polynomial → Option (Exponents × Exponents) → Type 0
AreApartAsRead d p None = IsHomogeneous d.k d.columns p
AreApartAsRead d p (Some pair) = AreApart d.k d.columns p pair.0 pair.1

abbrev pub MonomialsApartAreFound : Type 0
MonomialsApartAreFound = (d : Degrees) (p : Polynomial) → AreApartAsRead d p (apart d p.terms)

-- the text that is written of an input is read back as it
abbrev pub WrittenInputsAreReadBack : Type 0
WrittenInputsAreReadBack = (v : InputValue) → IsGrading v.degrees.k v.degrees.columns → AreGenerators v.degrees v.generators → IsInput (input_text v) v
