use Rattle.std.proofs.Common.{map}
use Rattle.git_allcones.specs.Cones.{cone_of}
use Rattle.git_allcones.specs.Verdicts.{AreFineBefore}
use Rattle.git_allcones.proofs.verdict.verdict_of.Given as goal

abbrev pub invariant-loop-i : goal.invariant-loop-i
invariant-loop-i l = AreFineBefore l.k (map cone_of l.cones) l.i 0
