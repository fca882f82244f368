use Rattle.std.proofs.Common.{◌≡◌, map, take}
use Rattle.git_allcones.specs.Cones.{normal_of}
use Rattle.git_face_tests.proofs.chambers.boundary.Given as goal

abbrev pub invariant-loop-normal : goal.invariant-loop-normal
invariant-loop-normal l = map normal_of l.out.items ≡ take l.normal-index l.normals
