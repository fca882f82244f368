-- What is answered of the listing of an input.
use Rattle.std.proofs.Common.{◌≡◌, ◌∙◌, List, ◌++◌, ℕ, Result, Ok, Err, inl, inr, refl, sym}
use Rattle.std.specs.Prelude.{IfOk}
use Rattle.git_base.specs.declared.status.Status.{Status}
use Rattle.git_base.specs.declared.status.Status.TheVariants.{Done}
use Rattle.git_input.specs.Inputs.{InputValue}
use Rattle.git_orbit.specs.Orbits.{Fan}
use Rattle.git_chamber.specs.Views.{Graph}
use Rattle.git_listing.specs.Listings.{Listing}
use Rattle.git_facecert.specs.declared.certificate.FaceVerdict.{FaceVerdict}
use Rattle.git_replies.specs.Cases.{Case}
use Rattle.git_answers.specs.Ends.{spelled}
use Rattle.git_answers.specs.Verdicts.{IsTail}
use Rattle.git_answers.specs.Fan.{Options, refuses, listed_then, fan_of, written}
use Rattle.git_answers.specs.declared.output.Output.{Output}
use Rattle.git_fan.specs.Fans.{HasListing}
use Rattle.git_fan.proofs.NotGood.{written_done}

module _ (v : InputValue) (n : Options) where
  -- the input is refused
  pub refused_answers : (of_listing : Fan → Listing → Case) (s : Status) (text : List ℕ) → spelled v (refuses n v) s text → spelled v (listed_then n of_listing v) s text
  refused_answers of_listing s text d = (d.0, inl d.1, d.2, d.3)

  module _ (g : Graph) (faces : List FaceVerdict) (l : Listing) (h : HasListing v (refuses n v) g faces l) where
    -- its listing decides
    pub listing_answers : (of_listing : Fan → Listing → Case) (s : Status) (text : List ℕ) → spelled v (of_listing g.fan l) s text → spelled v (listed_then n of_listing v) s text
    listing_answers of_listing s text d = (d.0, inr (h.passes, (g.fan, l, h.listing, d.1)), d.2, d.3)

    -- its listing is written
    pub listing_written : {T E : Type 0} (status_of : T → Status) (bytes_of : T → List ℕ) (r : Result T E) (output : Output) → IfOk r (λ a. status_of a ≡ Done)
        → IfOk r (λ a. (after : List ℕ) × IsTail v (written output l).tail after × (bytes_of a ≡ (written output l).text ++ after)) → IfOk r (λ a. spelled v (fan_of n output v) (status_of a) (bytes_of a))
    listing_written status_of bytes_of (Ok a) output status text =
        (written output l, inr (h.passes, (g.fan, l, h.listing, refl)), written_done output l ∙ sym status, text)
    listing_written status_of bytes_of (Err e) output status text = tt
