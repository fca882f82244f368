use Rattle.std.proofs.Common.{take}
use Rattle.git_adjacency.specs.Marks.{IsMarked}
use Rattle.git_adjacency.proofs.marks.marked.Given as goal

abbrev pub invariant-loop-j : goal.invariant-loop-j
invariant-loop-j l = IsMarked (take l.j l.inequalities) l.width l.x l.words.items
