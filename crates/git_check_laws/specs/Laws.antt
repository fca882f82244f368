-- Of a listing and certificates, and of bytes, one thing is answered.
use Rattle.std.specs.Prelude.{◌≡◌, ℕ, List, length}
use Rattle.git_grading.specs.Gradings.{IsGrading}
use Rattle.git_input.specs.Inputs.{InputValue}
use Rattle.git_listing.specs.Limits.{FitsListing}
use Rattle.git_listing.specs.Listings.{FitsVersion, Listing}
use Rattle.git_certtext.specs.Blocks.{Block, FitsCerts}
use Rattle.git_check.specs.Checks.{IsChecked}
use Rattle.git_check.specs.declared.checked.Checked.{Checked}
use Rattle.git_replies.specs.Cases.{HasSome}
use Rattle.git_check_replies.specs.CheckCases.{check_case}

-- one answer at most
abbrev pub CheckHasOneAnswer : Type 0
CheckHasOneAnswer = (v : InputValue) (l : Listing) (bs : List Block) (a b : Checked) → IsGrading v.degrees.k v.degrees.columns → FitsVersion l
    → IsChecked v l bs a → IsChecked v l bs b → a ≡ b

-- and one at least, within the limits of the texts
abbrev pub CheckHasAnAnswer : Type 0
CheckHasAnAnswer = (v : InputValue) (l : Listing) (bs : List Block) → IsGrading v.degrees.k v.degrees.columns → FitsListing l → FitsCerts (length v.degrees.columns) bs
    → (c : Checked) × IsChecked v l bs c

-- any bytes have an answer
abbrev pub EachTextHasAnAnswer : Type 0
EachTextHasAnAnswer = (bytes : List ℕ) → HasSome (check_case bytes)
