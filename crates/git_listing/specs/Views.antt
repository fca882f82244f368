-- The listing that the values of the code stand for.
use Rattle.std.specs.Prelude.{map}
use Rattle.git_listing.specs.Listings.{Side, boundary, inner, Facet, Chamber, Listing}
use Rattle.git_listing.specs.declared.listing.ListedSide.{ListedSide}
use Rattle.git_listing.specs.declared.listing.ListedSide.TheVariants as sides
use Rattle.git_listing.specs.declared.listing.ListedFacet.{ListedFacet}
use Rattle.git_listing.specs.declared.listing.ListedChamber.{ListedChamber}
use Rattle.git_listing.specs.declared.listing.Listing as code

abbrev pub side_of : ListedSide → Side
side_of sides.Boundary = boundary
side_of (sides.Inner number matched) = inner number matched

abbrev pub facet_of : ListedFacet → Facet
facet_of f = record { normal = f.normal; side = side_of f.side }

abbrev pub chamber_of : ListedChamber → Chamber
chamber_of c = record { rays = c.rays.items; weight = c.weight; crossed = c.crossed; facets = map facet_of c.facets.items }

abbrev pub listing_of : code.Listing → Listing
listing_of l = record { version = l.version; k = l.k; r = l.r; cones = l.cones; chambers = map chamber_of l.chambers.items }
