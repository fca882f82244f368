use Rattle.std.proofs.Common.{sym}
use Rattle.git_bits.proofs.Bits.{bit_of_part}
use Rattle.git_bits.proofs.has_bit.Goals as goal

pub returns : goal.returns
returns c = sym (bit_of_part c.args.word c.args.place)
