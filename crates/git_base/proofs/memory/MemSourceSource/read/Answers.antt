use Rattle.std.proofs.Common.{arith, ◌∙◌, sym, ap}
use Rattle.git_base.proofs.Copies.{copied_front, nothing_left}
use Rattle.git_base.specs.Memory.{Feed}
use Rattle.git_base.proofs.memory.MemSourceSource.read.Goals as goal

pub returns-clause-bytes : goal.returns-clause-bytes
returns-clause-bytes c = (
  ap (λ (v : Feed). v.left) (sym c.self.view_is) ∙ copied_front c.self.inside.bytes.items c.args.buf.now c.copy_from_slice.new.self c.self.inside.at c.min-count.result (grind arith) (omega arith),
  λ none room. nothing_left c.self.inside.bytes.items c.self.inside.at c.min-count.result none (omega arith),
)
