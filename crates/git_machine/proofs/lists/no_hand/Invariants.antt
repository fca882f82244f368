use Rattle.std.proofs.Common.{◌≡◌, ℕ, ◌<◌, None, slice_index_or}
use Rattle.git_machine.proofs.lists.no_hand.Given as goal

abbrev pub invariant-loop-hand : goal.invariant-loop-hand
invariant-loop-hand l = (k : ℕ) → k < l.hand-index → slice_index_or l.hands k None ≡ None
