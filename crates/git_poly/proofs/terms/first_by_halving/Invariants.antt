use Rattle.git_poly.specs.Terms.{AreBoundsOfFirst}
use Rattle.std.proofs.Common.{◌-◌}
use Rattle.git_poly.proofs.terms.first_by_halving.Given as goal

abbrev pub invariant-loop-first : goal.invariant-loop-first
invariant-loop-first l = AreBoundsOfFirst l.a l.low l.m l.first l.last

abbrev pub decreases-loop-first : goal.decreases-loop-first
decreases-loop-first l = l.last - l.first
