use Rattle.std.proofs.Common.{◌≡◌, take}
use Rattle.git_defs.specs.Vectors.{units}
use Rattle.git_stages.proofs.lists.unit_vectors.Given as goal

abbrev pub invariant-loop-i : goal.invariant-loop-i
invariant-loop-i l = l.out.items ≡ take l.i (units l.k)
