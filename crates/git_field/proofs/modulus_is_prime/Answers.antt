use Rattle.std.proofs.Common.{arith}
use Rattle.git_field.proofs.Divisors.{no_divisor}
use Rattle.git_field.proofs.modulus_is_prime.Goals as goal

pub returns : goal.returns
returns c = record { above_one = omega arith; no_divisor = no_divisor }
