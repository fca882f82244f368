use Rattle.std.proofs.Common.{ℕ, ◌<◌}
use Rattle.git_facecert.specs.Answers.{PairDivides}
use Rattle.git_facecert.proofs.free.first_partner.Given as goal

abbrev pub invariant-loop-j : goal.invariant-loop-j
invariant-loop-j l = (k : ℕ) → l.i < k → k < l.j → PairDivides l.members l.i k
