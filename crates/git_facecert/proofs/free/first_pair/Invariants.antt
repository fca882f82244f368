use Rattle.std.proofs.Common.{ℕ, ◌<◌, length}
use Rattle.git_facecert.specs.Answers.{PairDivides}
use Rattle.git_facecert.proofs.free.first_pair.Given as goal

abbrev pub invariant-loop-i : goal.invariant-loop-i
invariant-loop-i l = (k m : ℕ) → k < l.i → k < m → m < length l.members → PairDivides l.members k m
