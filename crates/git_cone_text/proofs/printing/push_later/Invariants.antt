use Rattle.std.proofs.Common.{◌≡◌, ◌++◌, drop}
use Rattle.std.specs.List.{flat_map}
use Rattle.std.specs.String.{string_bytes}
use Rattle.git_lines.specs.Printing.{after_spaces}
use Rattle.git_cone_text.specs.ConesText.{later_words}
use Rattle.git_cone_text.proofs.printing.push_later.Given as goal

abbrev pub invariant-loop-ray : goal.invariant-loop-ray
invariant-loop-ray l = string_bytes l.out ++ after_spaces (flat_map later_words (drop l.ray-index l.rays)) ≡ string_bytes l.fn.out ++ after_spaces (flat_map later_words l.rays)
