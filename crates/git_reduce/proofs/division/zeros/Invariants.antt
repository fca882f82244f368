use Rattle.std.proofs.Common.{◌≡◌}
use Rattle.std.specs.Prelude.{replicate}
use Rattle.git_algebra.specs.Operations.{zero_polynomial}
use Rattle.git_reduce.proofs.division.zeros.Given as goal

abbrev pub invariant-loop : goal.invariant-loop
invariant-loop l = l.found.items ≡ replicate l.counter zero_polynomial
