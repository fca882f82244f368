use Rattle.std.proofs.Common.{◌≡◌, ◌+◌, ◌++◌, length}
use Rattle.git_table.specs.Views.{stacked}
use Rattle.git_table.proofs.stack.pile.Given as goal

abbrev pub invariant-loop-i : goal.invariant-loop-i
invariant-loop-i l = (stacked l.spares (l.count + l.i) ≡ stacked l.top l.i ++ stacked l.fn.spares l.count) × (length l.spares ≡ 64)
