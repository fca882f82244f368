use Rattle.std.proofs.Common.{ℕ, ◌<◌, List, slice_index_or}
use Rattle.std.specs.List.{Contains}
use Rattle.git_machine.proofs.lists.contains_all.Given as goal

abbrev pub invariant-loop-x : goal.invariant-loop-x
invariant-loop-x l = (k : ℕ) (d : List ℕ) → k < l.x-index → Contains l.sigs (slice_index_or l.xs k d)
