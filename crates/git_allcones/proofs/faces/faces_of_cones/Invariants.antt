use Rattle.std.proofs.Common.{map, take}
use Rattle.git_allcones.specs.Cones.{cone_of}
use Rattle.git_allcones.specs.Sets.{vectors_of}
use Rattle.git_allcones.proofs.AllFaces.{AreFacesOf}
use Rattle.git_allcones.proofs.faces.faces_of_cones.Given as goal

abbrev pub invariant-loop-cone : goal.invariant-loop-cone
invariant-loop-cone l = AreFacesOf l.k (map cone_of (take l.cone-index l.cones)) (map vectors_of l.all.items)
