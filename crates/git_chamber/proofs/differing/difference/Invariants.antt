use Rattle.std.proofs.Common.{◌<◌, ℕ}
use Rattle.std.specs.Prelude.{◌↔◌}
use Rattle.git_machine.specs.Signatures.{Has}
use Rattle.git_chamber.proofs.differing.difference.Given as goal

abbrev pub invariant-loop-n : goal.invariant-loop-n
invariant-loop-n l = (m : ℕ) → m < l.n → Has l.a m ↔ Has l.b m
