use Rattle.std.proofs.Common.{ℕ, ◌^◌, ◌≤◌, arith, lit<}
use Rattle.std.proofs.Math.Nat.{pow-le-pow_right}
use Rattle.git_lines.proofs.numbers.value_of.Goals as goal

power_fits : (i j : ℕ) → i ≤ j → 10 ^ i ≤ 10 ^ j
power_fits i j h = pow-le-pow_right (lit< tt) h

pub returns-clause-small : goal.returns-clause-small
returns-clause-small c = omega (arith, c.loop-byte.invariant.small, power_fits c.loop-byte.byte-index 18 (omega arith))

pub overflow_mul-value : goal.overflow_mul-value
overflow_mul-value c = omega (arith, c.loop-byte.invariant.small, power_fits c.loop-byte.byte-index 17 (omega arith))

pub overflow_add-value : goal.overflow_add-value
overflow_add-value c = omega (arith, c.loop-byte.invariant.small, power_fits c.loop-byte.byte-index 17 (omega arith))
