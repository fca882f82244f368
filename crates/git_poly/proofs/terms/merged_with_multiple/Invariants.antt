use Rattle.std.proofs.Common.{◌≤◌, length, drop}
use Rattle.git_poly.specs.Terms.{sum_of}
use Rattle.git_poly.proofs.Merging.{Merging}
use Rattle.git_poly.proofs.Shifting.{shift_reduced}
use Rattle.git_poly.proofs.terms.merged_with_multiple.Given as goal

abbrev pub invariant-loop-t : goal.invariant-loop-t
invariant-loop-t l = record {
  within : l.i ≤ length l.a;
  so_far : Merging (sum_of l.a) (shift_reduced l.m l.c (sum_of l.b)) (sum_of l.out.items) (sum_of (drop l.i l.a)) (shift_reduced l.m l.c (sum_of (drop l.t-index l.b)));
}
