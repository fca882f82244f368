use Rattle.std.proofs.Common.{◌<◌, ℕ}
use Rattle.git_bunch.specs.Stable.{IsNumberOf}
use Rattle.git_bunch.proofs.numbers.number_of.Given as goal

abbrev pub invariant-loop-i : goal.invariant-loop-i
invariant-loop-i l = (n : ℕ) → n < l.i → IsNumberOf l.cones l.g.columns l.mask n → ⊥
