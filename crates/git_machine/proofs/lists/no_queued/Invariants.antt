use Rattle.std.proofs.Common.{◌≡◌, ℕ, ◌<◌, false, slice_get}
use Rattle.git_machine.specs.States.{is_queued}
use Rattle.git_machine.proofs.lists.no_queued.Given as goal

abbrev pub invariant-loop-place : goal.invariant-loop-place
invariant-loop-place l = (k : ℕ) → k < l.place-index → is_queued (slice_get l.places k) ≡ false
