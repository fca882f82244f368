use Rattle.std.proofs.Common.{◌≡◌, ◌++◌, drop}
use Rattle.git_cone_faces.specs.Faces.{on_wall}
use Rattle.git_allcones.proofs.faces.on_wall.Given as goal

abbrev pub invariant-loop-v : goal.invariant-loop-v
invariant-loop-v l = l.out.items ++ on_wall l.normal (drop l.v-index l.vs) ≡ on_wall l.normal l.vs
