use Rattle.std.proofs.Common.{◌≡◌, ◌↔◌, ◌+◌, ◌/◌, ◌<◌, ℕ, length}
use Rattle.git_machine.specs.Signatures.{Has}
use Rattle.git_orbit.proofs.index.below.Given as goal

abbrev pub invariant-loop-i : goal.invariant-loop-i
invariant-loop-i l = record { width : length l.all ≡ (l.count + 63) / 64; each : (n : ℕ) → Has l.all n ↔ (n < l.i) }
