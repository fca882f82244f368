use Rattle.std.proofs.Common.{take, ◌≤◌, ◌^◌}
use Rattle.std.specs.Prelude.{All}
use Rattle.std.specs.Int.RustNames.{unsigned_abs}
use Rattle.git_stages.proofs.large.are_small.Given as goal

abbrev pub invariant-loop-entry : goal.invariant-loop-entry
invariant-loop-entry l = All (λ z. unsigned_abs z ≤ 2 ^ 40) (take l.entry-index l.entries)
