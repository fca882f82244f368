-- The check text: an input, a listing and certificates, one directly after the other.
use Rattle.std.specs.Prelude.{◌≡◌, ℕ, ◌+◌, ◌≤◌, List, ◌++◌, length, take, drop, Ok}
use Rattle.git_input.specs.Inputs.{InputValue}
use Rattle.git_text.specs.Fronts.{IsFront}
use Rattle.git_listing.specs.Limits.{FitsListing}
use Rattle.git_listing.specs.Listings.{Listing}
use Rattle.git_listing.specs.ListingText.{listing_text}
use Rattle.git_certtext.specs.Blocks.{Block}
use Rattle.git_certtext.specs.CertReading.{reading}
use Rattle.git_lines.specs.Lines.{lines_of}
use Rattle.git_checktext.specs.declared.limits.TheConstants.{TEXT_BYTES}

-- the variables of an input
abbrev pub variables : InputValue → ℕ
variables v = length v.degrees.columns

-- at the head of the bytes stand this input, so many bytes long, and this listing; the rest follows
pub record IsHead (bytes : List ℕ) (v : InputValue) (used : ℕ) (l : Listing) (rest : List ℕ) : Type 0 where
  pub input : IsFront bytes v used
  pub fits : FitsListing l
  pub is : drop used bytes ≡ listing_text l ++ rest

-- how many lines so many of the first bytes have
abbrev pub lines_within : ℕ → List ℕ → ℕ
lines_within used bytes = length (lines_of (take used bytes))

-- how many lines stand before the certificates
abbrev pub lines_before_certs : ℕ → List ℕ → Listing → ℕ
lines_before_certs used bytes l = lines_within used bytes + length (lines_of (listing_text l))

-- what a check text says, and how many of its lines stand before the listing and before the certificates
pub record CheckText : Type 0 where
  pub input : InputValue
  pub listing : Listing
  pub certs : List Block
  pub before_listing : ℕ
  pub before_certs : ℕ

-- the bytes are this check text
pub record IsCheckText (bytes : List ℕ) (x : CheckText) : Type 0 where
  pub few : length bytes ≤ TEXT_BYTES
  pub used : ℕ
  pub rest : List ℕ
  pub head : IsHead bytes x.input used x.listing rest
  pub certs : reading (variables x.input) rest ≡ Ok x.certs
  pub before_listing : x.before_listing ≡ lines_within used bytes
  pub before_certs : x.before_certs ≡ lines_before_certs used bytes x.listing
