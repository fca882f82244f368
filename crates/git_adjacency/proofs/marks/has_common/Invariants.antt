use Rattle.std.proofs.Common.{ℕ, ◌<◌, ◌/◌}
use Rattle.git_adjacency.specs.Marks.{HasMark}
use Rattle.git_adjacency.proofs.marks.has_common.Given as goal

abbrev pub invariant-loop-i : goal.invariant-loop-i
invariant-loop-i l = (j : ℕ) → j / 64 < l.i → HasMark l.r j → HasMark l.s j → HasMark l.t j
