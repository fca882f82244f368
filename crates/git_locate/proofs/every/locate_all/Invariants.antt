use Rattle.std.proofs.Common.{map, take}
use Rattle.git_listing.specs.Views.{listing_of}
use Rattle.git_locate.specs.Lists.{ArePlaced}
use Rattle.git_locate.specs.Views.{placed_of}
use Rattle.git_locate.proofs.every.locate_all.Given as goal

abbrev pub invariant-loop-i : goal.invariant-loop-i
invariant-loop-i l = ArePlaced l.cones (listing_of l.listing) (take l.i l.weights) (map placed_of l.out.items)
