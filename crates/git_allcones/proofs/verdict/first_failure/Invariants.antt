use Rattle.std.proofs.Common.{ℕ, ◌<◌, map}
use Rattle.git_allcones.specs.Cones.{cone_at, cone_of}
use Rattle.git_allcones.specs.Verdicts.{PairIsFine}
use Rattle.git_allcones.proofs.verdict.first_failure.Given as goal

abbrev pub invariant-loop-j : goal.invariant-loop-j
invariant-loop-j l = (b : ℕ) → l.i < b → b < l.j → PairIsFine l.k (cone_at (map cone_of l.cones) l.i) (cone_at (map cone_of l.cones) b)
