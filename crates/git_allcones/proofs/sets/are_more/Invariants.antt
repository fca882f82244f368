use Rattle.std.proofs.Common.{◌≡◌, ◌+◌, map, take}
use Rattle.git_allcones.specs.Faces.{lists_size}
use Rattle.git_allcones.specs.Sets.{vectors_of}
use Rattle.git_allcones.proofs.sets.are_more.Given as goal

abbrev pub invariant-loop-list : goal.invariant-loop-list
invariant-loop-list l = l.left + lists_size (map vectors_of (take l.list-index l.lists)) ≡ l.limit
