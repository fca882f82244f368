use Rattle.std.proofs.Common.{◌≡◌, ℕ, ◌<◌, List, Option, Some, None, true, false, IsTrue, length, slice_index_or, slice_get, sym, ◌∙◌, ap, subst, arith}
use Rattle.std.proofs.lemmas.Option.{slice_get_within}
use Rattle.git_machine.specs.declared.event.Event.TheVariants.{Take}
use Rattle.git_machine.specs.declared.place.Place.{Place}
use Rattle.git_machine.specs.declared.place.Place.TheVariants.{Queued}
use Rattle.git_machine.specs.Machine.{happens}
use Rattle.git_machine.specs.States.{Kept, IsKept, IsAllowed, state_of, event_of, is_queued}
use Rattle.git_machine.proofs.Steps.{takes, keeps_take, took, no_hand}
use Rattle.git_machine.proofs.state.State.take.Goals as goal

pub invariant_of-self : goal.invariant_of-self
invariant_of-self g c =
    let old : Kept g.row.G.Denot = record { graph = c.self.inside.graph.now; listed = c.self.inside.listed.items; places = c.self.inside.places.items; hands = c.self.inside.hands.items } in
    let is : old ≡ c.args.self.now = c.self.view_is in
    let h : IsKept (g.G.Successors.next old.graph) (g.G.Successors.legal old.graph) old = c.self.invariant in
    let at : slice_get old.places c.args.id ≡ Some Queued = subst (λ (l : List Place). slice_get l c.args.id ≡ Some Queued) c.as_slice-2.ensures.value (c.is_waiting.ensures.0 c.if-not-is_waiting.false) in
    let none : ¬ ((id : ℕ) × (slice_index_or old.hands c.args.worker None ≡ Some id)) = λ has.
    let found : IsTrue c.has_hand.result = c.has_hand.ensures.1 (subst (λ (l : List (Option ℕ)). (id : ℕ) × (slice_index_or l c.args.worker None ≡ Some id)) (sym c.as_slice.ensures.value) has) in
    (let bad : false ≡ true = sym c.if-has_hand.false ∙ found in cc) in
    let free = no_hand old.hands c.args.worker none in
    let lw : c.args.worker < length old.hands = omega (arith, c.len.ensures, c.self.inside.hands.ok) in
    let li : c.args.id < length old.places = slice_get_within old.places c.args.id Queued at in
    keeps_take old (g.G.Successors.next old.graph) (g.G.Successors.legal old.graph) h c.args.worker c.args.id lw li at free

pub returns-clause-done : goal.returns-clause-done
returns-clause-done g c =
    let old : Kept g.row.G.Denot = record { graph = c.self.inside.graph.now; listed = c.self.inside.listed.items; places = c.self.inside.places.items; hands = c.self.inside.hands.items } in
    let is : old ≡ c.args.self.now = c.self.view_is in
    let h : IsKept (g.G.Successors.next old.graph) (g.G.Successors.legal old.graph) old = c.self.invariant in
    let at : slice_get old.places c.args.id ≡ Some Queued = subst (λ (l : List Place). slice_get l c.args.id ≡ Some Queued) c.as_slice-2.ensures.value (c.is_waiting.ensures.0 c.if-not-is_waiting.false) in
    let none : ¬ ((id : ℕ) × (slice_index_or old.hands c.args.worker None ≡ Some id)) = λ has.
    let found : IsTrue c.has_hand.result = c.has_hand.ensures.1 (subst (λ (l : List (Option ℕ)). (id : ℕ) × (slice_index_or l c.args.worker None ≡ Some id)) (sym c.as_slice.ensures.value) has) in
    (let bad : false ≡ true = sym c.if-has_hand.false ∙ found in cc) in
    let free = no_hand old.hands c.args.worker none in
    let lw : c.args.worker < length old.hands = omega (arith, c.len.ensures, c.self.inside.hands.ok) in
    let li : c.args.id < length old.places = slice_get_within old.places c.args.id Queued at in
    let allowed : IsAllowed (g.G.Successors.next old.graph) old (Take c.args.worker c.args.id) = ((free, ap is_queued at), lw) in
    let same : state_of ((λ (o : Kept g.row.G.Denot). took o c.args.worker c.args.id) old) ≡ happens (state_of old) (event_of old (Take c.args.worker c.args.id)) = takes old c.args.worker c.args.id lw li at in
    subst (λ (o : Kept g.row.G.Denot). IsAllowed (g.G.Successors.next o.graph) o (Take c.args.worker c.args.id) × (state_of ((λ (o : Kept g.row.G.Denot). took o c.args.worker c.args.id) old) ≡ happens (state_of o) (event_of o (Take c.args.worker c.args.id)))) is (allowed, same)
