use Rattle.std.proofs.Common.{map, take}
use Rattle.std.specs.List.{AllZip}
use Rattle.git_listing.specs.Views.{chamber_of}
use Rattle.git_bunch.specs.Changes.{IsBunchAlone}
use Rattle.git_bunch.specs.Views.{bunch_of}
use Rattle.git_bunch.proofs.bunching.bunch.Given as goal

abbrev pub invariant-loop-chamber : goal.invariant-loop-chamber
invariant-loop-chamber l = AllZip (IsBunchAlone l.cones l.groups.items) (map chamber_of (take l.chamber-index l.listing.chambers.items)) (map bunch_of l.out.items)
