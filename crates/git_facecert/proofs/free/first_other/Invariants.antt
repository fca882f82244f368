use Rattle.std.proofs.Common.{ℕ, ◌<◌}
use Rattle.git_ideals.specs.Division.{member}
use Rattle.git_facecert.specs.Certificates.{IsMember}
use Rattle.git_facecert.proofs.free.first_other.Given as goal

abbrev pub invariant-loop-i : goal.invariant-loop-i
invariant-loop-i l = (k : ℕ) → k < l.i → IsMember l.mask (member l.members k)
