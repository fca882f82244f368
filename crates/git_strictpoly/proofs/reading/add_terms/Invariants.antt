use Rattle.std.proofs.Common.{◌≡◌, ◌≤◌, length}
use Rattle.std.specs.List.{AllByRecursion}
use Rattle.git_algebra.specs.Order.{rank}
use Rattle.git_strictpoly.specs.Strict.{terms_after}
use Rattle.git_strictpoly.specs.Giving.{after}
use Rattle.git_strictpoly.proofs.reading.add_terms.Given as goal

abbrev pub invariant-loop-before : goal.invariant-loop-before
invariant-loop-before l = record {
  reads : after l.sum.terms (terms_after l.left l.r l.before l.front) ≡ after l.fn.begun.terms (terms_after (length l.fn.front) l.r l.fn.first l.fn.front);
  below : AllByRecursion (λ t. rank l.before ≤ rank t.0) l.sum.terms;
}

abbrev pub decreases-loop-before : goal.decreases-loop-before
decreases-loop-before l = l.left
