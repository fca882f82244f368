-- What is answered of weights beside a listing and its cones, by cases in order.
use Rattle.std.specs.Prelude.{◌≡◌, ℕ, List}
use Rattle.git_base.specs.declared.status.Status.TheVariants.{Done, Wide}
use Rattle.git_defs.specs.Vectors.{Vector}
use Rattle.git_stages.specs.declared.wide.WideAt.{WideAt}
use Rattle.git_orbit.specs.Orbits.{Fan}
use Rattle.git_listing.specs.Listings.{Listing}
use Rattle.git_locate.specs.Lists.{ArePlaced, IsFirstWideWeight}
use Rattle.git_locate.specs.Places.{Placed}
use Rattle.git_locate.specs.PlaceText.{places_text}
use Rattle.git_replies.specs.Cases.{Case, ◌otherwise◌, says}
use Rattle.git_weight_replies.specs.WeightLines.{wide_weight_text}

-- a weight is wide, and none before it
abbrev pub wide_weight : List Vector → Fan → Case
wide_weight weights fan o = (number : ℕ) × (at : WideAt) × IsFirstWideWeight fan weights number at × (o ≡ says Wide (wide_weight_text number at))

-- each weight and where it lies
abbrev pub locates : List Vector → Fan → Listing → Case
locates weights fan l o = (all : List Placed) × ArePlaced fan l weights all × (o ≡ says Done (places_text all))

abbrev pub locate_case : List Vector → Fan → Listing → Case
locate_case weights fan l = wide_weight weights fan otherwise locates weights fan l
