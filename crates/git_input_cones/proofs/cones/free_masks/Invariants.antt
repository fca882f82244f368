use Rattle.std.proofs.Common.{◌≡◌, ◌++◌, drop}
use Rattle.git_input_cones.specs.InputCones.{free_masks_of}
use Rattle.git_input_cones.proofs.cones.free_masks.Given as goal

abbrev pub invariant-loop-face : goal.invariant-loop-face
invariant-loop-face l = l.masks.items ++ free_masks_of (drop l.face-index l.faces) ≡ free_masks_of l.faces
