use Rattle.std.proofs.Common.{◌≡◌, map, take}
use Rattle.git_cone_faces.specs.Faces.{on_wall}
use Rattle.git_allcones.specs.Sets.{vectors_of}
use Rattle.git_allcones.proofs.faces.on_walls.Given as goal

abbrev pub invariant-loop-list : goal.invariant-loop-list
invariant-loop-list l = map vectors_of l.out.items ≡ map (λ u. on_wall l.normal (vectors_of u)) (take l.list-index l.lists)
