use Rattle.std.proofs.Common.{sym, ◌∙◌, ap, Some}
use Rattle.git_ints.proofs.Built.{unit_at, unit_front}
use Rattle.git_ints.proofs.vector.IVec.unit.Goals as goal

pub returns : goal.returns
returns c = unit_at c.args.k c.args.i c.requires.at ∙ ap Some (sym (c.of.ensures ∙ unit_front c.args.k 6 c.args.i c.requires.at c.requires.few))
