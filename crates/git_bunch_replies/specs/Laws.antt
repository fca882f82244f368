-- What is answered of a listing is one thing.
use Rattle.git_grading.specs.Gradings.{IsGrading}
use Rattle.git_input.specs.Inputs.{InputValue}
use Rattle.git_orbit.specs.Orbits.{Fan}
use Rattle.git_chamber.specs.Views.{IsGraph}
use Rattle.git_listing.specs.Listings.{Listing}
use Rattle.git_replies.specs.Cases.{HasOne, HasSome}
use Rattle.git_answers.specs.Fan.{IsListingOf}
use Rattle.git_bunch.specs.Bunches.{IsCrossedListing}
use Rattle.git_bunch.specs.Stable.{Family, IsFamily}
use Rattle.git_bunch_replies.specs.BunchCases.{AreDecided, bunch_case, tells}

-- one answer at most, of a listing over a family and over the family of an input
abbrev pub OneAnswer : Type 0
OneAnswer = (F : Family) (l : Listing) → HasOne (bunch_case F l)

abbrev pub OneAnswerOfAnInput : Type 0
OneAnswerOfAnInput = (v : InputValue) (fan : Fan) (l : Listing) → HasOne (tells v fan l)

-- and one at least
abbrev pub SomeAnswer : Type 0
SomeAnswer = (F : Family) (l : Listing) → IsGrading F.fan.k F.columns → IsFamily F → IsCrossedListing F.fan l.chambers → HasSome (bunch_case F l)

abbrev pub SomeAnswerOfAnInput : Type 0
SomeAnswerOfAnInput = (v : InputValue) (fan : Fan) (l : Listing) → AreDecided v → IsGraph (record { fan = fan; columns = v.degrees.columns }) → IsListingOf v fan l → HasSome (tells v fan l)
