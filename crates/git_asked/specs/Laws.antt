-- What holds of the checker's reasons, as the laws of this crate say it.
use Rattle.std.specs.Prelude.{◌≡◌, ◌↔◌, ℕ, Option}
use Rattle.git_machine.specs.Signatures.{Signature}
use Rattle.git_orbit.specs.Orbits.{Fan, IsFan}
use Rattle.git_orbit.specs.Signatures.{IsLegal}
use Rattle.git_listing.specs.Listings.{FitsVersion, Listing}
use Rattle.git_asked.specs.declared.finding.Reason.{Reason}
use Rattle.git_asked.specs.declared.finding.Finding.{Finding}
use Rattle.git_asked.specs.Findings.{Finds}
use Rattle.git_asked.specs.Asks.{Asks, IsTrueListing}

-- all that is asked holds exactly of the true listings
abbrev pub AllHoldsExactlyOfTheListing : Type 0
AllHoldsExactlyOfTheListing = (fan : Fan) (first : Signature) (r : ℕ) (l : Listing) → IsFan fan.k fan.list → IsLegal fan first → FitsVersion l
    → (((reason : Reason) (line : ℕ) → Asks fan first r l reason line) ↔ IsTrueListing fan first r l)

-- of what is asked of a listing there is one first finding
abbrev pub FirstFindingIsOne : Type 0
FirstFindingIsOne = (fan : Fan) (first : Signature) (r : ℕ) (l : Listing) (a b : Option Finding) → Finds (Asks fan first r l) a → Finds (Asks fan first r l) b → a ≡ b
