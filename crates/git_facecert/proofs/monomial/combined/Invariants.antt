use Rattle.std.proofs.Common.{◌≡◌, map, take}
use Rattle.git_algebra.specs.Operations.{restricted}
use Rattle.git_ideals.specs.Ideals.{combination}
use Rattle.git_facecert.proofs.monomial.combined.Given as goal

abbrev pub invariant-loop-i : goal.invariant-loop-i
invariant-loop-i l = l.sum ≡ combination (take l.i l.cofactors) (map (restricted l.mask) (take l.i l.generators))
