-- What holds of check texts.
use Rattle.std.specs.Prelude.{◌≡◌, ◌⊎◌, ℕ, ◌≤◌, List, ◌++◌, length, true}
use Rattle.git_facecert.specs.declared.certificate.FaceVerdict.{FaceVerdict}
use Rattle.git_input.specs.Inputs.{InputValue}
use Rattle.git_text.specs.Grammar.{IsInput}
use Rattle.git_listing.specs.Limits.{FitsListing}
use Rattle.git_listing.specs.Listings.{Listing}
use Rattle.git_listing.specs.ListingText.{listing_text}
use Rattle.git_certtext.specs.Blocks.{FitsCerts, blocks_of}
use Rattle.git_certtext.specs.CertificateText.{certificates_text}
use Rattle.git_lines.specs.Lines.{is_ended}
use Rattle.git_replies.specs.Cases.{HasOne, HasSome, Passes}
use Rattle.git_checktext.specs.declared.limits.TheConstants.{TEXT_BYTES}
use Rattle.git_checktext.specs.CheckText.{CheckText, IsCheckText, variables}
use Rattle.git_checktext.specs.Reads.{no_check_text}

-- bytes are one check text at most
abbrev pub OneCheckText : Type 0
OneCheckText = (bytes : List ℕ) (x y : CheckText) → IsCheckText bytes x → IsCheckText bytes y → x ≡ y

-- bytes that are no check text have one answer at most
abbrev pub OneRefusal : Type 0
OneRefusal = (bytes : List ℕ) → HasOne (no_check_text bytes)

-- bytes are a check text or have such an answer
abbrev pub CheckTextOrRefusal : Type 0
CheckTextOrRefusal = (bytes : List ℕ) → ((x : CheckText) × IsCheckText bytes x) ⊎ HasSome (no_check_text bytes)

-- and not both
abbrev pub CheckTextsAreNotRefused : Type 0
CheckTextsAreNotRefused = (bytes : List ℕ) (x : CheckText) → IsCheckText bytes x → Passes (no_check_text bytes)

-- an input whose last line has its line feed, with a listing and certificates printed after it, is a check text that says the three
abbrev pub PrintedTextsAreCheckTexts : Type 0
PrintedTextsAreCheckTexts = (front : List ℕ) (v : InputValue) (l : Listing) (vs : List FaceVerdict) → IsInput front v → is_ended front ≡ true
    → FitsListing l → FitsCerts (variables v) (blocks_of vs) → length (front ++ (listing_text l ++ certificates_text vs)) ≤ TEXT_BYTES
    → (x : CheckText) × IsCheckText (front ++ (listing_text l ++ certificates_text vs)) x × (x.input ≡ v) × (x.listing ≡ l) × (x.certs ≡ blocks_of vs)
