use Rattle.std.proofs.Common.{◌≡◌, ◌∷◌, []}
use Rattle.git_machine.specs.declared.place.Place.TheVariants.{Queued}
use Rattle.git_machine.proofs.Steps.{kept_opening}
use Rattle.git_machine.proofs.state.State.new.Goals as goal

pub invariant_of-result : goal.invariant_of-result
invariant_of-result g c =
    let one : c.push.new.self.items ≡ c.args.first.now ∷ [] = c.loop-worker.invariant.listed in
    let queue : c.push-2.new.self.items ≡ Queued ∷ [] = c.loop-worker.invariant.places in
    kept_opening (g.G.Successors.next c.args.graph.now) (g.G.Successors.legal c.args.graph.now) c.args.graph.now c.args.first.now c.push.new.self.items c.push-2.new.self.items c.loop-worker.hands.items c.loop-worker._worker one queue c.loop-worker.invariant.hands c.requires.legal
