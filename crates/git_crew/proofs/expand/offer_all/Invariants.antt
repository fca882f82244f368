use Rattle.std.proofs.Common.{◌≡◌, ℕ, ◌<◌, get_or}
use Rattle.git_machine.specs.Signatures.{Signature}
use Rattle.git_table.specs.Calls.{Sees, room}
use Rattle.git_crew.specs.Members.{Keeps}
use Rattle.git_crew.proofs.expand.offer_all.Given as goal

abbrev pub invariant-loop-i : goal.invariant-loop-i
invariant-loop-i g l = record {
  keeps : Keeps l.fn.seat l.seat;
  fits : l.hints.room ≡ room l.frontier;
  seen : (j : ℕ) (y : Signature) → j < l.i → get_or l.next.items j y ≡ y → (q : ℕ) × Sees l.seat q y;
}
