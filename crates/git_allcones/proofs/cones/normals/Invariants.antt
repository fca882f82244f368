use Rattle.std.proofs.Common.{◌≡◌, map, take}
use Rattle.git_allcones.specs.Cones.{normal_of}
use Rattle.git_allcones.proofs.cones.normals.Given as goal

abbrev pub invariant-loop-f : goal.invariant-loop-f
invariant-loop-f l = l.out.items ≡ map normal_of (take l.f-index l.facets)
