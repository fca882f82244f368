-- A reply without certificates.
use Rattle.std.proofs.Common.{List, ℕ, Result, Ok, Err, refl}
use Rattle.std.specs.Prelude.{IfOk}
use Rattle.git_base.specs.declared.status.Status.{Status}
use Rattle.git_input.specs.Inputs.{InputValue}
use Rattle.git_orbit.specs.Orbits.{Fan}
use Rattle.git_listing.specs.Listings.{Listing}
use Rattle.git_chamber.specs.Views.{Graph}
use Rattle.git_facecert.specs.declared.certificate.FaceVerdict.{FaceVerdict}
use Rattle.git_replies.specs.Cases.{Case, says}
use Rattle.git_answers.specs.Ends.{spelled}
use Rattle.git_answers.specs.Fan.{Options, refuses, listed_then}
use Rattle.git_answers.proofs.Replies.{plain}
use Rattle.git_fan.specs.Fans.{HasListing}
use Rattle.git_fan.proofs.Listings.{listing_answers}

-- a text is told of the listing
pub told : {T E : Type 0} (status_of : T → Status) (bytes_of : T → List ℕ) (v : InputValue) (n : Options) (g : Graph) (faces : List FaceVerdict) (l : Listing) → HasListing v (refuses n v) g faces l
    → (of_listing : Fan → Listing → Case) (r : Result T E) → IfOk r (λ a. of_listing g.fan l (says (status_of a) (bytes_of a))) → IfOk r (λ a. spelled v (listed_then n of_listing v) (status_of a) (bytes_of a))
told status_of bytes_of v n g faces l h of_listing (Ok a) says_it =
    listing_answers v n g faces l h of_listing (status_of a) (bytes_of a) (plain v (of_listing g.fan l) (status_of a) (status_of a) (bytes_of a) (bytes_of a) says_it refl refl)
told status_of bytes_of v n g faces l h of_listing (Err e) says_it = tt
