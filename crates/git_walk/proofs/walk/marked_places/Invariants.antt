use Rattle.std.proofs.Common.{◌↔◌, ◌<◌, ℕ}
use Rattle.git_lemmas.specs.Members.{Member}
use Rattle.git_walk.specs.Walks.{Marked}
use Rattle.git_walk.proofs.walk.marked_places.Given as goal

abbrev pub invariant-loop-i : goal.invariant-loop-i
invariant-loop-i l = (i : ℕ) → Member i l.places.items ↔ ((i < l.i) × Marked l.marks i)
