use Rattle.std.proofs.Common.{◌≡◌, ◌++◌, drop}
use Rattle.std.specs.Prelude.{codes}
use Rattle.std.specs.List.{flat_map}
use Rattle.std.specs.String.{string_bytes}
use Rattle.git_lines.specs.Printing.{integers_line}
use Rattle.git_locate.proofs.printing.push_rays.Given as goal

abbrev pub invariant-loop-ray : goal.invariant-loop-ray
invariant-loop-ray l = string_bytes l.out ++ flat_map (integers_line (codes "ray")) (drop l.ray-index l.rays) ≡ string_bytes l.fn.out ++ flat_map (integers_line (codes "ray")) l.rays
