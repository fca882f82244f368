-- What the lines before the first chamber say, as the code holds it.
use Rattle.git_listing.specs.declared.heads.Head.{Head}
use Rattle.git_listing.specs.ListingReading.{HeadValue}

abbrev pub head_of : Head → HeadValue
head_of h = record { version = h.version; sizes = (h.k, h.r); cones = h.cones; count = h.count }
