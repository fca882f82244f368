use Rattle.std.proofs.Common.{◌≡◌, ◌++◌, drop, map}
use Rattle.std.specs.List.{flat_map}
use Rattle.std.specs.String.{string_bytes}
use Rattle.git_locate.specs.PlaceText.{placed_text}
use Rattle.git_locate.specs.Views.{placed_of}
use Rattle.git_locate.proofs.printing.push_all.Given as goal

abbrev pub invariant-loop-one : goal.invariant-loop-one
invariant-loop-one l = string_bytes l.out ++ flat_map placed_text (map placed_of (drop l.one-index l.all)) ≡ string_bytes l.fn.out ++ flat_map placed_text (map placed_of l.all)
