use Rattle.std.proofs.Common.{◌≡◌, ◌++◌, drop, map}
use Rattle.std.specs.Fmt.{decimal}
use Rattle.std.specs.String.{string_bytes}
use Rattle.git_lines.specs.Printing.{after_spaces}
use Rattle.git_bunch.proofs.printing.push_masks.Given as goal

abbrev pub invariant-loop-mask : goal.invariant-loop-mask
invariant-loop-mask l = string_bytes l.out ++ after_spaces (map decimal (drop l.mask-index l.masks)) ≡ string_bytes l.fn.out ++ after_spaces (map decimal l.masks)
