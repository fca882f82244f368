-- What is answered to bytes that are no check text, by cases in order; and else by the cases of the text.
use Rattle.std.specs.Prelude.{◌≡◌, ℕ, ◌+◌, ◌<◌, List, length, drop}
use Rattle.git_base.specs.declared.status.Status.TheVariants.{BadInput}
use Rattle.git_lines.specs.declared.fault.FormKind.{FormKind}
use Rattle.git_input.specs.Inputs.{InputValue}
use Rattle.git_text.specs.declared.fault.BadKind.{BadKind}
use Rattle.git_text.specs.Fronts.{IsFront, IsFirstFrontFault}
use Rattle.git_text.specs.Reading.{variables_in}
use Rattle.git_listing.specs.Listings.{Listing}
use Rattle.git_listing.specs.ListingReading as listing
use Rattle.git_certtext.specs.CertReading as certs
use Rattle.git_replies.specs.Cases.{Case, Outcome, ◌otherwise◌, says}
use Rattle.git_replies.specs.Refusals.{fault_text, long_text}
use Rattle.git_checktext.specs.declared.limits.TheConstants.{TEXT_BYTES}
use Rattle.git_checktext.specs.CheckText.{CheckText, IsCheckText, IsHead, lines_before_certs, lines_within, variables}
use Rattle.git_checktext.specs.Refusals.{certs_fault_text, listing_fault_text}

-- there are too many bytes
abbrev pub text_too_long : List ℕ → Case
text_too_long bytes o = (TEXT_BYTES < length bytes) × (o ≡ says BadInput long_text)

-- no input is at the head: the first fault of the lines up to its end
pub record NamesInputFault (bytes : List ℕ) (o : Outcome) : Type 0 where
  pub line : ℕ
  pub column : ℕ
  pub kind : BadKind
  pub first : IsFirstFrontFault bytes line column kind
  pub is : o ≡ says BadInput (fault_text (variables_in bytes) line column kind)

-- no listing follows the input: the first fault of what does
pub record NamesListingFault (bytes : List ℕ) (o : Outcome) : Type 0 where
  pub input : InputValue
  pub used : ℕ
  pub front : IsFront bytes input used
  pub line : ℕ
  pub kind : FormKind
  pub first : listing.IsFirstFault (drop used bytes) line kind
  pub is : o ≡ says BadInput (listing_fault_text (lines_within used bytes + line) kind)

-- what follows the listing are no certificates: the first fault
pub record NamesCertsFault (bytes : List ℕ) (o : Outcome) : Type 0 where
  pub input : InputValue
  pub used : ℕ
  pub listing : Listing
  pub rest : List ℕ
  pub head : IsHead bytes input used listing rest
  pub line : ℕ
  pub kind : FormKind
  pub first : certs.IsFirstFault (variables input) rest line kind
  pub is : o ≡ says BadInput (certs_fault_text (lines_before_certs used bytes listing + line) kind)

-- the bytes are no check text
abbrev pub no_check_text : List ℕ → Case
no_check_text bytes = text_too_long bytes otherwise (NamesInputFault bytes otherwise (NamesListingFault bytes otherwise NamesCertsFault bytes))

-- the cases of the check text that the bytes are
abbrev pub of_check_text : List ℕ → (CheckText → Case) → Case
of_check_text bytes cases o = (x : CheckText) × IsCheckText bytes x × cases x o

abbrev pub reads_check_text : (CheckText → Case) → List ℕ → Case
reads_check_text cases bytes = no_check_text bytes otherwise of_check_text bytes cases
