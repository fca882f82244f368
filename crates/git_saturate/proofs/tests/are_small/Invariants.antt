use Rattle.std.proofs.Common.{ℕ, ◌<◌, ◌≤◌, get_or}
use Rattle.git_algebra.specs.Polynomials.{Polynomial}
use Rattle.git_algebra.specs.Operations.{total_degree}
use Rattle.git_saturate.proofs.tests.are_small.Given as goal

abbrev pub invariant-loop-p : goal.invariant-loop-p
invariant-loop-p l = (k : ℕ) (d : Polynomial) → k < l.p-index → total_degree (get_or l.ps k d) ≤ 1048576
