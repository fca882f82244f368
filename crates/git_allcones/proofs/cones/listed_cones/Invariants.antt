use Rattle.std.proofs.Common.{◌≡◌, map, take}
use Rattle.git_allcones.specs.Cones.{cone_of}
use Rattle.git_allcones.proofs.Pairs.{view}
use Rattle.git_allcones.proofs.cones.listed_cones.Given as goal

abbrev pub invariant-loop-chamber : goal.invariant-loop-chamber
invariant-loop-chamber l = map cone_of l.out.items ≡ map view (take l.chamber-index l.listing.chambers.items)
