use Rattle.std.proofs.Common.{◌<◌, ℕ}
use Rattle.git_machine.specs.Signatures.{Has}
use Rattle.git_check_chambers.proofs.own.has_member.Given as goal

abbrev pub invariant-loop-n : goal.invariant-loop-n
invariant-loop-n l = (m : ℕ) → m < l.n → Has l.sig m → ⊥
