-- When a listing and certificates are valid beside an input, and what is answered else.
use Rattle.std.specs.Prelude.{◌≡◌, ◌⊎◌, List, Option, Some, None, IsNone, All}
use Rattle.git_orbit.specs.Orbits.{Fan}
use Rattle.git_input.specs.Inputs.{InputValue}
use Rattle.git_ideals.specs.Faces.{IsAFace}
use Rattle.git_listing.specs.Listings.{Chamber, Listing, old_of}
use Rattle.git_certtext.specs.Blocks.{Block}
use Rattle.git_answers.specs.Verdicts.{whole_face}
use Rattle.git_answers.specs.Fan.{IsListingOf}
use Rattle.git_asked.specs.declared.finding.Reason.{Reason}
use Rattle.git_asked.specs.declared.finding.Reason.TheVariants.{VerdictMissing, CertRefused, Monomial}
use Rattle.git_asked.specs.declared.finding.Finding.{Finding}
use Rattle.git_asked.specs.Findings.{FailsFirst}
use Rattle.git_check_faces.specs.Laws.{AreAccepted}
use Rattle.git_check.specs.Texts.{AsksText}
use Rattle.git_check.specs.declared.checked.Section.{Section}
use Rattle.git_check.specs.declared.checked.Section.TheVariants as section
use Rattle.git_check.specs.declared.checked.Checked.{Checked}
use Rattle.git_check.specs.declared.checked.Checked.TheVariants.{Valid, Invalid}

-- the listing of an input in whose ideal no monomial is
pub record IsInputListing (v : InputValue) (l : Listing) : Type 0 where
  pub whole : IsAFace v.generators (whole_face v)
  pub fan : Fan
  pub listing : IsListingOf v fan l

-- it, or the same as version 1 has it, without marks, where no chamber has one
abbrev pub IsTrueOf : InputValue → Listing → Type 0
IsTrueOf v l = IsInputListing v l ⊎ ((m : Listing) × IsInputListing v m × All (λ (c : Chamber). IsNone c.crossed) m.chambers × (l ≡ old_of m))

-- the listing is that of the input, and there is one accepted certificate for each full face, masks descending
pub record IsValid (v : InputValue) (l : Listing) (bs : List Block) : Type 0 where
  pub certificates : AreAccepted v bs
  pub listing : IsTrueOf v l

-- where a reason is named
abbrev pub section_of : Reason → Section
section_of VerdictMissing = section.Certs
section_of CertRefused = section.Certs
section_of Monomial = section.Certs
section_of reason = section.Listing

-- the answer to the first finding
abbrev pub checked_of : Option Finding → Checked
checked_of None = Valid
checked_of (Some f) = Invalid (section_of f.reason) f.line f.reason

-- all is valid, or the reason is the first that fails, at its first line
abbrev pub IsChecked : InputValue → Listing → List Block → Checked → Type 0
IsChecked v l bs Valid = IsValid v l bs
IsChecked v l bs (Invalid named line reason) = (named ≡ section_of reason) × FailsFirst (AsksText v l bs) reason line
