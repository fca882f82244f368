-- What holds of checking bytes.
use Rattle.std.specs.Prelude.{◌≡◌, ◌⊎◌, ℕ, ◌≤◌, List, ◌++◌, length, true}
use Rattle.git_base.specs.declared.status.Status.TheVariants.{BadInput, Done, Invalid}
use Rattle.git_grading.specs.Gradings.{IsGrading}
use Rattle.git_answers.specs.Ends.{spelled}
use Rattle.git_answers.specs.Fan.{Options, fan_of}
use Rattle.git_answers.specs.declared.output.Output.TheVariants.{Certified}
use Rattle.git_input.specs.Inputs.{InputValue}
use Rattle.git_text.specs.Grammar.{IsInput}
use Rattle.git_lines.specs.Lines.{is_ended}
use Rattle.git_facecert.specs.declared.certificate.FaceVerdict.{FaceVerdict}
use Rattle.git_listing.specs.Limits.{FitsListing}
use Rattle.git_listing.specs.declared.limits.TheConstants.{LISTED}
use Rattle.git_listing.specs.Listings.{Listing}
use Rattle.git_listing.specs.ListingText.{listing_text}
use Rattle.git_certtext.specs.Blocks.{FitsCerts, blocks_of}
use Rattle.git_certtext.specs.CertificateText.{certificates_text}
use Rattle.git_check.specs.Checks.{IsInputListing, IsValid}
use Rattle.git_check_faces.specs.Laws.{AreAccepted}
use Rattle.git_checktext.specs.declared.limits.TheConstants.{TEXT_BYTES}
use Rattle.git_checktext.specs.CheckText.{CheckText, IsCheckText, variables}
use Rattle.git_replies.specs.Cases.{HasOne, Outcome, says}
use Rattle.git_check_replies.specs.CheckLines.{valid_text}
use Rattle.git_check_replies.specs.CheckCases.{check_case}

-- bytes have one answer at most
abbrev pub OneAnswer : Type 0
OneAnswer = (bytes : List ℕ) → HasOne (check_case bytes)

-- an input whose last line has its line feed, with a listing and certificates printed after it that are valid beside it, is answered `valid`
abbrev pub ValidTextsAreValid : Type 0
ValidTextsAreValid = (front : List ℕ) (v : InputValue) (l : Listing) (vs : List FaceVerdict) → IsInput front v → is_ended front ≡ true
    → FitsListing l → FitsCerts (variables v) (blocks_of vs) → IsValid v l (blocks_of vs) → length (front ++ (listing_text l ++ certificates_text vs)) ≤ TEXT_BYTES
    → check_case (front ++ (listing_text l ++ certificates_text vs)) (says Done valid_text)

-- and only such a text is: an input, a listing and certificates that are valid beside it, one directly after the other
abbrev pub OnlyValidTextsAreValid : Type 0
OnlyValidTextsAreValid = (bytes text : List ℕ) → check_case bytes (says Done text)
    → (x : CheckText) × IsCheckText bytes x × IsValid x.input x.listing x.certs × (text ≡ valid_text)

-- an answer is a status of three and a text, which no certificates follow
abbrev pub AnswersArePlain : Type 0
AnswersArePlain = (bytes : List ℕ) (o : Outcome) → check_case bytes o → (o ≡ says o.status o.text) × ((o.status ≡ Done) ⊎ (o.status ≡ Invalid) ⊎ (o.status ≡ BadInput))

-- ---- what `fan` writes

-- the text of the input's listing and of one accepted certificate for each full face, both within the limits of their texts
pub record IsWrittenText (v : InputValue) (text : List ℕ) : Type 0 where
  pub listing : Listing
  pub certs : List FaceVerdict
  pub is : text ≡ listing_text listing ++ certificates_text certs
  pub listing_is : IsInputListing v listing
  pub listing_fits : FitsListing listing
  pub accepted : AreAccepted v (blocks_of certs)
  pub fits : FitsCerts (variables v) (blocks_of certs)

-- what `fan` writes with certificates where it is done is such a text, for each table that the words may ask for and any number of steps
abbrev pub FanWritesSuchTexts : Type 0
FanWritesSuchTexts = (v : InputValue) (n : Options) (text : List ℕ) → IsGrading v.degrees.k v.degrees.columns → n.table ≤ LISTED → spelled v (fan_of n Certified v) Done text → IsWrittenText v text

-- behind its input it is answered `valid`
abbrev pub WrittenTextsAreValid : Type 0
WrittenTextsAreValid = (front : List ℕ) (v : InputValue) (n : Options) (text : List ℕ) → IsInput front v → is_ended front ≡ true → n.table ≤ LISTED → spelled v (fan_of n Certified v) Done text
    → length (front ++ text) ≤ TEXT_BYTES → check_case (front ++ text) (says Done valid_text)
