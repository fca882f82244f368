use Rattle.std.proofs.Common.{◌≡◌, ◌++◌, drop, map}
use Rattle.std.specs.List.{flat_map}
use Rattle.std.specs.String.{string_bytes}
use Rattle.git_allcones.specs.Faces.{face_of}
use Rattle.git_cone_text.specs.ConesText.{cone_text, faces_of}
use Rattle.git_cone_text.proofs.printing.push_cones.Given as goal

abbrev pub invariant-loop-face : goal.invariant-loop-face
invariant-loop-face l = string_bytes l.out ++ flat_map cone_text (faces_of l.dimension (map face_of (drop l.face-index l.faces))) ≡ string_bytes l.fn.out ++ flat_map cone_text (faces_of l.dimension (map face_of l.faces))
