-- An input at the head of a longer text.
use Rattle.std.specs.Prelude.{◌≡◌, ◌≢◌, ℕ, ◌≤◌, List, ◌++◌, length, take, Err}
use Rattle.std.specs.List.{concat}
use Rattle.git_lines.specs.Lines.{lines_of}
use Rattle.git_grading.specs.Gradings.{IsGrading}
use Rattle.git_input.specs.Inputs.{InputValue, AreGenerators}
use Rattle.git_text.specs.declared.fault.BadKind.{BadKind}
use Rattle.git_text.specs.declared.fault.BadKind.TheVariants.{Trailing}
use Rattle.git_text.specs.declared.fault.InputFault.TheVariants.{Bad}
use Rattle.git_text.specs.Grammar.{IsInput}
use Rattle.git_text.specs.Writing.{input_text}
use Rattle.git_text.specs.Reading.{ReadsFront, whole_text, IsFirstFault}

-- so many bytes are those of the first lines of the text, each with its line feed where it has one
pub record AreFirstLines (used : ℕ) (bytes : List ℕ) : Type 0 where
  pub count : ℕ
  pub within : used ≤ length bytes
  pub are : take used bytes ≡ concat (take count (lines_of bytes))

-- so many bytes, up to the end of a line, are the text of this input
pub record IsFront (bytes : List ℕ) (v : InputValue) (used : ℕ) : Type 0 where
  pub lines : AreFirstLines used bytes
  pub input : IsInput (take used bytes) v

-- the first fault of the lines up to `end`, whatever follows: its line, its column and its kind
abbrev pub IsFirstFrontFault : List ℕ → ℕ → ℕ → BadKind → Type 0
IsFirstFrontFault bytes line column kind = ReadsFront (whole_text bytes) (Err (Bad line column kind))

-- ---- what holds of them

-- a text has one input at its head at most
abbrev pub OneFront : Type 0
OneFront = (bytes : List ℕ) (v w : InputValue) (used used2 : ℕ) → IsFront bytes v used → IsFront bytes w used2 → (v ≡ w) × (used ≡ used2)

-- a fault of the head is that of the whole text, and a fault of the whole text is that of its head, or bytes that follow an input
abbrev pub FrontFaultsAreFaults : Type 0
FrontFaultsAreFaults = (bytes : List ℕ) (line column : ℕ) (kind : BadKind) → (IsFirstFrontFault bytes line column kind → IsFirstFault bytes line column kind)
    × (IsFirstFault bytes line column kind → kind ≢ Trailing → IsFirstFrontFault bytes line column kind)

-- a text that has an input at its head has no fault there
abbrev pub FrontsHaveNoFault : Type 0
FrontsHaveNoFault = (bytes : List ℕ) (v : InputValue) (used line column : ℕ) (kind : BadKind) → IsFront bytes v used → IsFirstFrontFault bytes line column kind → ⊥

-- what was written is read back whatever follows it
abbrev pub WrittenInputsAreReadInFront : Type 0
WrittenInputsAreReadInFront = (v : InputValue) (rest : List ℕ) → IsGrading v.degrees.k v.degrees.columns → AreGenerators v.degrees v.generators → IsFront (input_text v ++ rest) v (length (input_text v))
