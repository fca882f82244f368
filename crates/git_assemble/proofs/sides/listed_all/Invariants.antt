use Rattle.std.proofs.Common.{map, take}
use Rattle.std.specs.List.{AllZip}
use Rattle.git_listing.specs.Views.{chamber_of}
use Rattle.git_assemble.specs.Making.{IsMade}
use Rattle.git_assemble.proofs.sides.listed_all.Given as goal

abbrev pub invariant-loop-c : goal.invariant-loop-c
invariant-loop-c l = AllZip (IsMade l.cones l.numbers l.chambers) (take l.c-index l.chambers) (map chamber_of l.all.items)
