use Rattle.std.proofs.Common.{◌≡◌, ◌∷◌, [], None, replicate}
use Rattle.git_machine.specs.declared.place.Place.TheVariants.{Queued}
use Rattle.git_machine.proofs.state.State.new.Given as goal

abbrev pub invariant-loop-worker : goal.invariant-loop-worker
invariant-loop-worker g l = record {
  listed : l.listed.items ≡ l.first ∷ [];
  places : l.places.items ≡ Queued ∷ [];
  hands : l.hands.items ≡ replicate l._worker None;
}
