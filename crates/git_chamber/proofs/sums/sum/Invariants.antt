use Rattle.std.proofs.Common.{◌-◌, drop, length}
use Rattle.git_chamber.proofs.RaySums.{IsSum}
use Rattle.git_chamber.proofs.sums.sum.Given as goal

abbrev pub invariant-loop-j : goal.invariant-loop-j
invariant-loop-j l = IsSum l.k (drop (length l.vs - l.j) l.vs) l.j l.total
