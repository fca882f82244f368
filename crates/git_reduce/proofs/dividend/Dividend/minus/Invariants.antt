use Rattle.std.proofs.Common.{take, ◌++◌}
use Rattle.git_algebra.specs.Sums.{Alike, shift}
use Rattle.git_reduce.specs.Entries.{AreNumbers}
use Rattle.git_reduce.proofs.dividend.Dividend.minus.Given as goal

abbrev pub invariant-loop-i : goal.invariant-loop-i
invariant-loop-i l = record {
  numbers : AreNumbers l.terms.entries;
  so_far : Alike l.terms.entries (l.initial.terms.entries ++ shift l.m l.negative (take l.i l.g.terms));
}
