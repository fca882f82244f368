use Rattle.git_bits.proofs.Bits.{bit_of_part}
use Rattle.git_bits.proofs.bits_are_of_parts.Goals as goal

pub returns : goal.returns
returns c = bit_of_part
