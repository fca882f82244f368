use Rattle.git_bits.proofs.Bits.{no_high_bit}
use Rattle.git_bits.proofs.small_numbers_have_low_bits.Goals as goal

pub returns : goal.returns
returns c = no_high_bit
