use Rattle.std.proofs.Common.{◌≡◌, ◌+◌, drop}
use Rattle.git_adjacency.specs.Marks.{shared}
use Rattle.git_adjacency.proofs.marks.share_enough.Given as goal

abbrev pub invariant-loop-i : goal.invariant-loop-i
invariant-loop-i l = l.fn.k + shared (drop l.i l.r) (drop l.i l.s) ≡ l.left + shared l.r l.s
