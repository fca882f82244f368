use Rattle.git_bits.proofs.Bits.{numbers_by_bits}
use Rattle.git_bits.proofs.bits_decide_numbers.Goals as goal

pub returns : goal.returns
returns c = numbers_by_bits
