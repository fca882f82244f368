-- What is asked of a listing and certificates beside an input, by reason and line, whoever wrote them. Lines are those of the listing, or for reasons of certificates those of the certificates, from 1.
use Rattle.std.specs.Prelude.{◌≡◌, ℕ, List, length}
use Rattle.git_defs.specs.Faces.{face, IsLeastMask}
use Rattle.git_stages.specs.Wide.{NeverWide}
use Rattle.git_machine.specs.Signatures.{Signature}
use Rattle.git_orbit.specs.Orbits.{Fan}
use Rattle.git_input.specs.Inputs.{InputValue}
use Rattle.git_ideals.specs.Faces.{IsAFace}
use Rattle.git_listing.specs.Listings.{Listing}
use Rattle.git_certtext.specs.Blocks.{Block}
use Rattle.git_answers.specs.Fan.{IsOpening}
use Rattle.git_asked.specs.declared.finding.Reason.{Reason}
use Rattle.git_asked.specs.declared.finding.Reason.TheVariants.{Shape, VerdictMissing, CertRefused, Monomial, WideCone}
use Rattle.git_asked.specs.Asks.{Asks}
use Rattle.git_check_faces.specs.Faces.{AsksFaces}

-- all that is asked holds
abbrev pub AllHold : (Reason → ℕ → Type 0) → Type 0
AllHold asks = (reason : Reason) (line : ℕ) → asks reason line

module _ (v : InputValue) where
  -- the listing's matrix has the input's size
  abbrev pub IsOfSizes : Listing → Type 0
  IsOfSizes l = (l.k ≡ v.degrees.k) × (l.r ≡ length v.degrees.columns)

  -- no a-face, the least with its cone, has wide columns
  abbrev pub AreNarrow : Type 0
  AreNarrow = (mask : ℕ) → IsLeastMask v.degrees.k v.degrees.columns (IsAFace v.generators) mask → NeverWide v.degrees.k (face v.degrees.columns mask)

  -- what is asked of the chambers, beside the input's cones and the signature with which all begins
  abbrev pub AsksListing : Listing → Reason → ℕ → Type 0
  AsksListing l reason line = (fan : Fan) (first : Signature) → IsOpening v fan first → Asks fan first (length v.degrees.columns) l reason line

  -- of the whole
  abbrev pub AsksText : Listing → List Block → Reason → ℕ → Type 0
  AsksText l bs Shape line = line ≡ 2 → IsOfSizes l
  AsksText l bs VerdictMissing line = AsksFaces v bs VerdictMissing line
  AsksText l bs CertRefused line = AsksFaces v bs CertRefused line
  AsksText l bs Monomial line = AsksFaces v bs Monomial line
  AsksText l bs WideCone line = line ≡ 3 → AreNarrow
  AsksText l bs reason line = AsksListing l reason line
