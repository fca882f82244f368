-- Faults of a listing.
use Rattle.git_strictlines.specs.declared.fault.ReadFault.{ReadFault}
use Rattle.git_strictlines.specs.declared.fault.ReadFault.TheVariants as read
use Rattle.git_listing.specs.declared.fault.ListingFault.{ListingFault}
use Rattle.git_listing.specs.declared.fault.ListingFault.TheVariants.{BadListing, NoMemory}

-- the line and the kind of a fault of form
abbrev pub listing_fault : ReadFault → ListingFault
listing_fault (read.Form f) = BadListing f.line f.kind
listing_fault read.NoMemory = NoMemory
