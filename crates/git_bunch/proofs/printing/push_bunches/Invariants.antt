use Rattle.std.proofs.Common.{◌≡◌, ◌+◌, ◌++◌, drop, map}
use Rattle.std.specs.String.{string_bytes}
use Rattle.git_bunch.specs.BunchText.{bunches_from}
use Rattle.git_bunch.specs.Views.{bunch_of}
use Rattle.git_bunch.proofs.printing.push_bunches.Given as goal

abbrev pub invariant-loop-i : goal.invariant-loop-i
invariant-loop-i l = string_bytes l.out ++ bunches_from (l.i + 1) (map bunch_of (drop l.i l.bunches)) ≡ string_bytes l.fn.out ++ bunches_from 1 (map bunch_of l.bunches)
