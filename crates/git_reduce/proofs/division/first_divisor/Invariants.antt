use Rattle.std.proofs.Common.{ℕ, ◌<◌}
use Rattle.git_ideals.specs.Division.{member, LeadDivides}
use Rattle.git_reduce.proofs.division.first_divisor.Given as goal

abbrev pub invariant-loop-i : goal.invariant-loop-i
invariant-loop-i l = (k : ℕ) → k < l.i → LeadDivides (member l.basis k) l.m → ⊥
