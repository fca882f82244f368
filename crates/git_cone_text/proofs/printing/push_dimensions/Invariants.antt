use Rattle.std.proofs.Common.{◌≡◌, ◌++◌, map}
use Rattle.std.specs.List.{flat_map, range_with_len}
use Rattle.std.specs.String.{string_bytes}
use Rattle.git_allcones.specs.Faces.{face_of}
use Rattle.git_cone_text.specs.ConesText.{dimension_text}
use Rattle.git_cone_text.proofs.printing.push_dimensions.Given as goal

abbrev pub invariant-loop-dimension : goal.invariant-loop-dimension
invariant-loop-dimension l = string_bytes l.out ≡ string_bytes l.fn.out ++ flat_map (dimension_text (map face_of l.faces)) (range_with_len 0 l.dimension)
