-- What is answered of a listing is one thing.
use Rattle.git_listing.specs.Listings.{Listing}
use Rattle.git_allcones.specs.Cones.{AreShortCones, cones_of}
use Rattle.git_replies.specs.Cases.{HasOne, HasSome}
use Rattle.git_cone_replies.specs.ConeCases.{cones_case}

-- one answer at most
abbrev pub OneAnswer : Type 0
OneAnswer = (l : Listing) → HasOne (cones_case l)

-- and one at least
abbrev pub SomeAnswer : Type 0
SomeAnswer = (l : Listing) → AreShortCones l.k (cones_of l) → HasSome (cones_case l)
