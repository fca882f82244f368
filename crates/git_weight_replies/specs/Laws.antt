-- What is answered of weights is one thing.
use Rattle.std.specs.Prelude.{◌<◌, List, length}
use Rattle.git_defs.specs.Vectors.{AllOfLength, Vector}
use Rattle.git_grading.specs.Gradings.{IsGrading}
use Rattle.git_input.specs.Inputs.{InputValue}
use Rattle.git_orbit.specs.Orbits.{Fan, IsFan}
use Rattle.git_listing.specs.Listings.{Listing}
use Rattle.git_allcones.specs.Cones.{AreShortCones, cones_of}
use Rattle.git_replies.specs.Cases.{HasOne, HasSome, Passes}
use Rattle.git_chamber.specs.Views.{IsGraph}
use Rattle.git_answers.specs.Fan.{IsFanOf, IsListingOf, Options, has_monomial, refuses}
use Rattle.git_weight_replies.specs.WeightCases.{locate_case}

-- one answer at most
abbrev pub OneAnswer : Type 0
OneAnswer = (weights : List Vector) (fan : Fan) (l : Listing) → 0 < length fan.list → HasOne (locate_case weights fan l)

-- and one at least
abbrev pub SomeAnswer : Type 0
SomeAnswer = (weights : List Vector) (fan : Fan) (l : Listing) → IsFan fan.k fan.list → 0 < length fan.list → AreShortCones fan.k (cones_of l)
    → AllOfLength fan.k weights → HasSome (locate_case weights fan l)

-- an input without a monomial has a cone
abbrev pub ListedInputsHaveCones : Type 0
ListedInputsHaveCones = (v : InputValue) (fan : Fan) → IsGrading v.degrees.k v.degrees.columns → Passes (has_monomial v) → IsFanOf v fan → 0 < length fan.list

-- of the weights of an input that isn't refused one thing is answered at most
abbrev pub ListedWeightsHaveOneAnswer : Type 0
ListedWeightsHaveOneAnswer = (v : InputValue) (n : Options) (fan : Fan) (l : Listing) (weights : List Vector) → IsGrading v.degrees.k v.degrees.columns → Passes (refuses n v)
    → IsListingOf v fan l → HasOne (locate_case weights fan l)

-- and something is, where each has as many entries as the grading has rows
abbrev pub ListedWeightsHaveSomeAnswer : Type 0
ListedWeightsHaveSomeAnswer = (v : InputValue) (fan : Fan) (l : Listing) (weights : List Vector) → IsGraph (record { fan = fan; columns = v.degrees.columns })
    → IsListingOf v fan l → AllOfLength v.degrees.k weights → HasSome (locate_case weights fan l)
