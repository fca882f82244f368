use Rattle.std.proofs.Common.{◌≢◌, ℕ, ◌<◌, List, slice_index_or}
use Rattle.git_machine.proofs.lists.contains.Given as goal

abbrev pub invariant-loop-s : goal.invariant-loop-s
invariant-loop-s l = (k : ℕ) (d : List ℕ) → k < l.s-index → slice_index_or l.sigs k d ≢ l.x
