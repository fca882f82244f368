use Rattle.std.proofs.Common.{map}
use Rattle.git_allcones.specs.Sets.{vectors_of}
use Rattle.git_allcones.proofs.Passings.{ArePassed}
use Rattle.git_allcones.proofs.faces.faces_of_cone.Given as goal

abbrev pub invariant-loop-normal : goal.invariant-loop-normal
invariant-loop-normal l = ArePassed l.k l.cone.facets.items l.cone.rays.items l.normal-index (map vectors_of l.lists.items)
