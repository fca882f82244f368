use Rattle.std.proofs.Common.{◌+◌, ◌-◌, ◌≤◌, length, drop}
use Rattle.git_poly.specs.Terms.{sum_of}
use Rattle.git_poly.proofs.Merging.{Merging}
use Rattle.git_poly.proofs.terms.merged.Given as goal

abbrev pub invariant-merging : goal.invariant-merging
invariant-merging l = record {
  left_in : l.i ≤ length l.a;
  right_in : l.j ≤ length l.b;
  so_far : Merging (sum_of l.a) (sum_of l.b) (sum_of l.out.items) (sum_of (drop l.i l.a)) (sum_of (drop l.j l.b));
}

abbrev pub decreases-merging : goal.decreases-merging
decreases-merging l = (length l.a - l.i) + (length l.b - l.j)
