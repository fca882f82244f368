use Rattle.std.specs.Prelude.{◌+◌, map}
use Rattle.git_listing.specs.Views.{chamber_of}
use Rattle.git_locate.specs.Positions.{AreNumbersOf, IsListedAround}
use Rattle.git_locate.proofs.Numbers.{Below}
use Rattle.git_locate.proofs.around.chambers_around.Given as goal

abbrev pub invariant-loop-i : goal.invariant-loop-i
invariant-loop-i l = AreNumbersOf (Below (IsListedAround l.k (map chamber_of l.chambers) l.w) (l.i + 1)) l.out.items
