-- The cases of questions about the chambers of an input.
use Rattle.std.specs.Prelude.{List}
use Rattle.git_defs.specs.Vectors.{Vector}
use Rattle.git_input.specs.Inputs.{InputValue}
use Rattle.git_orbit.specs.Orbits.{Fan}
use Rattle.git_listing.specs.Listings.{Listing}
use Rattle.git_cone_replies.specs.ConeCases.{cones_case}
use Rattle.git_weight_replies.specs.WeightCases.{locate_case}
use Rattle.git_replies.specs.Cases.{Case}
use Rattle.git_answers.specs.Fan.{Options, listed_then}

-- all cones of a listing, whatever the fan
abbrev pub tells_cones : Fan → Listing → Case
tells_cones fan l = cones_case l

-- the chambers aren't listed, or all their cones are
abbrev pub all_cones_of : Options → InputValue → Case
all_cones_of n v = listed_then n tells_cones v

-- the chambers aren't listed, or it is said where each weight lies
abbrev pub locate_of : Options → List Vector → InputValue → Case
locate_of n weights v = listed_then n (locate_case weights) v
