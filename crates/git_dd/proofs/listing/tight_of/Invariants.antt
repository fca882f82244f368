use Rattle.std.proofs.Common.{take}
use Rattle.git_dd.specs.Tights.{AreTight}
use Rattle.git_dd.proofs.listing.tight_of.Given as goal

abbrev pub invariant-loop-i : goal.invariant-loop-i
invariant-loop-i l = AreTight (take l.i l.prepared) l.x l.out.items
