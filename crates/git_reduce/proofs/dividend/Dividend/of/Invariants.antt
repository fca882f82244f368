use Rattle.std.proofs.Common.{take}
use Rattle.git_algebra.specs.Sums.{Alike}
use Rattle.git_reduce.specs.Entries.{AreNumbers}
use Rattle.git_reduce.proofs.dividend.Dividend.of.Given as goal

abbrev pub invariant-loop-i : goal.invariant-loop-i
invariant-loop-i l = record {
  numbers : AreNumbers l.terms.entries;
  so_far : Alike l.terms.entries (take l.i l.f.terms);
}
