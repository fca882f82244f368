use Rattle.std.proofs.Common.{map, take}
use Rattle.git_listing.specs.Views.{chamber_of}
use Rattle.git_check_chambers.specs.Judged.{AreHoldings}
use Rattle.git_check_chambers.proofs.listing.holdings.Given as goal

abbrev pub invariant-loop-c : goal.invariant-loop-c
invariant-loop-c l = AreHoldings l.cones (map chamber_of (take l.c-index l.chambers)) l.sigs.items
