-- What every command answers that reads an input: the bytes are too many, or no input, or the input's cases decide.
use Rattle.std.specs.Prelude.{◌≡◌, ℕ, ◌<◌, List, length}
use Rattle.git_base.specs.declared.status.Status.TheVariants.{BadInput}
use Rattle.git_limits.specs.declared.TheConstants.{INPUT_BYTES}
use Rattle.git_text.specs.declared.fault.BadKind.{BadKind}
use Rattle.git_input.specs.Inputs.{InputValue}
use Rattle.git_text.specs.Grammar.{IsInput}
use Rattle.git_text.specs.Reading.{IsFirstFault, variables_in}
use Rattle.git_replies.specs.Cases.{Case, ◌otherwise◌, says}
use Rattle.git_replies.specs.Refusals.{fault_text, long_text}

-- there are too many bytes
abbrev pub too_long : List ℕ → Case
too_long bytes o = (INPUT_BYTES < length bytes) × (o ≡ says BadInput long_text)

-- the bytes are no input: they have a first fault, and the line of it is the text
pub record NamesFault (bytes : List ℕ) (o : Rattle.git_replies.specs.Cases.Outcome) : Type 0 where
  pub line : ℕ
  pub column : ℕ
  pub kind : BadKind
  pub first : IsFirstFault bytes line column kind
  pub is : o ≡ says BadInput (fault_text (variables_in bytes) line column kind)

-- the bytes are no input
abbrev pub no_input : List ℕ → Case
no_input bytes = too_long bytes otherwise NamesFault bytes

-- the cases of what the bytes are an input of
abbrev pub of_input : List ℕ → (InputValue → Case) → Case
of_input bytes cases o = (v : InputValue) × IsInput bytes v × cases v o

abbrev pub reads : (InputValue → Case) → List ℕ → Case
reads cases bytes = too_long bytes otherwise (NamesFault bytes otherwise of_input bytes cases)
