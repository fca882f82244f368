-- What holds of listings of both versions.
use Rattle.git_listing.specs.Listings.{Listing, FitsVersion, old_of}

-- without its marks a listing fits version 1
abbrev pub OldFitsItsVersion : Type 0
OldFitsItsVersion = (l : Listing) → FitsVersion (old_of l)
