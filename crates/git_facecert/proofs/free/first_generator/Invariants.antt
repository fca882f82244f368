use Rattle.std.proofs.Common.{ℕ, ◌<◌}
use Rattle.git_algebra.specs.Operations.{restricted}
use Rattle.git_ideals.specs.Division.{member, DividesToZero}
use Rattle.git_facecert.proofs.free.first_generator.Given as goal

abbrev pub invariant-loop-i : goal.invariant-loop-i
invariant-loop-i l = (k : ℕ) → k < l.i → DividesToZero l.members (restricted l.mask (member l.generators k))
