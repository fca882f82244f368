use Rattle.std.proofs.Common.{◌++◌, length}
use Rattle.git_algebra.specs.Sums.{Alike}
use Rattle.git_reduce.proofs.TermMaps.{AreAbove}
use Rattle.git_reduce.proofs.dividend.Dividend.rest.Given as goal

abbrev pub invariant-loop-last : goal.invariant-loop-last
invariant-loop-last l = record {
  above : AreAbove l.rest l.terms.entries;
  whole : Alike (l.rest.terms ++ l.terms.entries) l.initial.terms.entries;
}

abbrev pub decreases-loop-last : goal.decreases-loop-last
decreases-loop-last l = length l.terms.entries
