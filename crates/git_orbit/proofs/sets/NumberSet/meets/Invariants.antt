use Rattle.std.proofs.Common.{◌<◌, ◌/◌, ℕ}
use Rattle.git_machine.specs.Signatures.{Has}
use Rattle.git_orbit.proofs.sets.NumberSet.meets.Given as goal

abbrev pub invariant-loop-i : goal.invariant-loop-i
invariant-loop-i l = (n : ℕ) → n / 64 < l.i → Has l.self n → Has l.sig n → ⊥
