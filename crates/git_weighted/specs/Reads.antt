-- What is answered to bytes that are no input with weights, by cases in order; and else by the cases of these.
use Rattle.std.specs.Prelude.{◌≡◌, ℕ, ◌+◌, List, drop}
use Rattle.git_base.specs.declared.status.Status.TheVariants.{BadInput}
use Rattle.git_defs.specs.Vectors.{Vector}
use Rattle.git_input.specs.Inputs.{InputValue}
use Rattle.git_text.specs.declared.fault.BadKind.{BadKind}
use Rattle.git_text.specs.Fronts.{IsFront}
use Rattle.git_weights.specs.Reading.{IsFirstFault}
use Rattle.git_replies.specs.Cases.{Case, Outcome, ◌otherwise◌, says}
use Rattle.git_replies.specs.Reads.{too_long}
use Rattle.git_checktext.specs.CheckText.{lines_within}
use Rattle.git_checktext.specs.Reads.{NamesInputFault}
use Rattle.git_weighted.specs.WeightedInputs.{IsWeightedInput}
use Rattle.git_weighted.specs.Refusals.{weights_fault_text}

-- no weights follow the input: the first fault of what does, its line counted from the head of the bytes
pub record NamesWeightsFault (bytes : List ℕ) (o : Outcome) : Type 0 where
  pub input : InputValue
  pub used : ℕ
  pub front : IsFront bytes input used
  pub line : ℕ
  pub column : ℕ
  pub kind : BadKind
  pub first : IsFirstFault input.degrees.k (drop used bytes) line column kind
  pub is : o ≡ says BadInput (weights_fault_text (lines_within used bytes + line) column kind)

-- there are too many bytes, or no input is at their head, or no weights follow it
abbrev pub no_weighted_input : List ℕ → Case
no_weighted_input bytes = too_long bytes otherwise (NamesInputFault bytes otherwise NamesWeightsFault bytes)

-- the cases of the input and the weights that the bytes are
abbrev pub of_weighted_input : List ℕ → (InputValue → List Vector → Case) → Case
of_weighted_input bytes cases o = (v : InputValue) × (weights : List Vector) × IsWeightedInput bytes v weights × cases v weights o

abbrev pub reads_weighted : (InputValue → List Vector → Case) → List ℕ → Case
reads_weighted cases bytes = no_weighted_input bytes otherwise of_weighted_input bytes cases
