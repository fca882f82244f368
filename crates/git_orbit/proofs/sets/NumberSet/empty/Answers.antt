use Rattle.std.proofs.Common.{IsTrue, ◌%◌, ◌/◌, subst}
use Rattle.std.proofs.lemmas.Nat.{pow_pos}
use Rattle.git_bits.proofs.Bits.{no_high_bit}
use Rattle.git_bits.specs.Bits.{has_bit}
use Rattle.git_orbit.proofs.sets.NumberSet.empty.Goals as goal

pub returns-clause-none : goal.returns-clause-none
returns-clause-none c = λ n has. no_high_bit 0 (n % 64) (pow_pos (n % 64)) (subst (λ w. IsTrue (has_bit w (n % 64))) (c.loop-i.invariant.1 (n / 64)) has)
