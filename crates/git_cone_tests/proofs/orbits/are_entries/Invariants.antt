use Rattle.std.proofs.Common.{take, ◌≤◌}
use Rattle.std.specs.Prelude.{All}
use Rattle.std.specs.Int.RustNames.{unsigned_abs}
use Rattle.git_cone_tests.proofs.orbits.are_entries.Given as goal

abbrev pub invariant-loop-entry : goal.invariant-loop-entry
invariant-loop-entry l = All (λ z. unsigned_abs z ≤ 1000) (take l.entry-index l.entries)
