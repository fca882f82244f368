use Rattle.git_bits.proofs.Bits.{within_by_bits}
use Rattle.git_bits.proofs.bits_decide_within.Goals as goal

pub returns : goal.returns
returns c = within_by_bits
