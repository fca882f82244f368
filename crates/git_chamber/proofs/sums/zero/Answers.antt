use Rattle.std.proofs.Common.{◌∙◌}
use Rattle.git_ints.proofs.Built.{zeros_front}
use Rattle.git_chamber.proofs.sums.zero.Goals as goal

pub returns : goal.returns
returns c = c.of.ensures ∙ zeros_front c.args.k 6 c.requires.six
