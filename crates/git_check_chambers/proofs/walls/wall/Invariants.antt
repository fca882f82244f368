use Rattle.std.proofs.Common.{◌≡◌, ◌++◌, drop}
use Rattle.git_cone_faces.specs.Faces.{on_wall}
use Rattle.git_check_chambers.proofs.walls.wall.Given as goal

abbrev pub invariant-loop-v : goal.invariant-loop-v
invariant-loop-v l = l.wall.items ++ on_wall l.normal (drop l.v-index l.vs) ≡ on_wall l.normal l.vs
