use Rattle.std.proofs.Common.{◌≡◌, ◌++◌, drop, map}
use Rattle.std.specs.String.{string_bytes}
use Rattle.git_polytext.specs.Printing.{joined, power_text, powers_from, powers_of}
use Rattle.git_polytext.proofs.printing.push_powers.Given as goal

abbrev pub invariant-loop-place : goal.invariant-loop-place
invariant-loop-place l = string_bytes l.out ++ joined l.later (map power_text (powers_from l.place (drop l.place l.m.list))) ≡ string_bytes l.fn.out ++ joined l.begun (map power_text (powers_of l.m))
