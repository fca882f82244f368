use Rattle.std.proofs.Common.{◌-◌, drop, length}
use Rattle.git_cone_faces.specs.Faces.{on_wall}
use Rattle.git_chamber.proofs.RaySums.{IsSum}
use Rattle.git_chamber.proofs.sums.wall_sum.Given as goal

abbrev pub invariant-loop-j : goal.invariant-loop-j
invariant-loop-j l = IsSum l.k (on_wall l.normal (drop (length l.vs - l.j) l.vs)) l.j l.total
