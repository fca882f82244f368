use Rattle.std.proofs.Common.{◌≡◌, ℕ, List, Option, Some, None, true, false, IsTrue, slice_index_or, slice_get, sym, ◌∙◌, subst}
use Rattle.std.specs.List.{Contains}
use Rattle.git_machine.specs.declared.place.Place.{Place}
use Rattle.git_machine.specs.Signatures.{Signature}
use Rattle.git_machine.specs.Reach.{Reached}
use Rattle.git_machine.specs.Machine.{IsIdle}
use Rattle.git_machine.specs.States.{Kept, IsKept, state_of, is_queued}
use Rattle.git_machine.proofs.Steps.{idle_reach}
use Rattle.git_machine.proofs.state.State.is_idle.Goals as goal

pub returns-then-no_queued-clause-idle : goal.returns-then-no_queued-clause-idle
returns-then-no_queued-clause-idle g c =
    let old : Kept g.row.G.Denot = record { graph = c.self.inside.graph.now; listed = c.self.inside.listed.items; places = c.self.inside.places.items; hands = c.self.inside.hands.items } in
    let is : old ≡ c.args.self.now = c.self.view_is in
    let h : IsKept (g.G.Successors.next old.graph) (g.G.Successors.legal old.graph) old = c.self.invariant in
    let queue : IsTrue c.no_hand.result → IsIdle (state_of old) = λ yes_it. record {
      queue = subst (λ (l : List Place). (id : ℕ) → is_queued (slice_get l id) ≡ false) c.as_slice.ensures.value (c.no_queued.ensures.0 c.if-no_queued.true);
      hands = subst (λ (l : List (Option ℕ)). (worker : ℕ) → slice_index_or l worker None ≡ None) c.as_slice-then-no_queued.ensures.value (c.no_hand.ensures.0 yes_it);
    } in
    let back : IsIdle (state_of old) → IsTrue c.no_hand.result
    = λ idle. c.no_hand.ensures.1 (subst (λ (l : List (Option ℕ)). (worker : ℕ) → slice_index_or l worker None ≡ None) (sym c.as_slice-then-no_queued.ensures.value) idle.hands) in
    subst (λ (o : Kept g.row.G.Denot). (IsTrue c.no_hand.result → IsIdle (state_of o)) × (IsIdle (state_of o) → IsTrue c.no_hand.result)) is (queue, back)

pub returns-then-no_queued-clause-reach : goal.returns-then-no_queued-clause-reach
returns-then-no_queued-clause-reach g c =
    let old : Kept g.row.G.Denot = record { graph = c.self.inside.graph.now; listed = c.self.inside.listed.items; places = c.self.inside.places.items; hands = c.self.inside.hands.items } in
    let is : old ≡ c.args.self.now = c.self.view_is in
    let h : IsKept (g.G.Successors.next old.graph) (g.G.Successors.legal old.graph) old = c.self.invariant in
    let queue : IsTrue c.no_hand.result → IsIdle (state_of old) = λ yes_it. record {
      queue = subst (λ (l : List Place). (id : ℕ) → is_queued (slice_get l id) ≡ false) c.as_slice.ensures.value (c.no_queued.ensures.0 c.if-no_queued.true);
      hands = subst (λ (l : List (Option ℕ)). (worker : ℕ) → slice_index_or l worker None ≡ None) c.as_slice-then-no_queued.ensures.value (c.no_hand.ensures.0 yes_it);
    } in
    let reach : IsTrue c.no_hand.result → (first : Signature) → slice_get old.listed 0 ≡ Some first → (s : Signature) → (Reached (g.G.Successors.next old.graph) first s → Contains old.listed s) × (Contains old.listed s → Reached (g.G.Successors.next old.graph) first s)
    = λ yes_it first root s. idle_reach old (g.G.Successors.next old.graph) (g.G.Successors.legal old.graph) h (queue yes_it) first root s in
    subst (λ (o : Kept g.row.G.Denot). IsTrue c.no_hand.result → (first : Signature) → slice_get o.listed 0 ≡ Some first → (s : Signature) → (Reached (g.G.Successors.next o.graph) first s → Contains o.listed s) × (Contains o.listed s → Reached (g.G.Successors.next o.graph) first s)) is reach

pub returns-else-no_queued-clause-idle : goal.returns-else-no_queued-clause-idle
returns-else-no_queued-clause-idle g c =
    let old : Kept g.row.G.Denot = record { graph = c.self.inside.graph.now; listed = c.self.inside.listed.items; places = c.self.inside.places.items; hands = c.self.inside.hands.items } in
    let is : old ≡ c.args.self.now = c.self.view_is in
    let h : IsKept (g.G.Successors.next old.graph) (g.G.Successors.legal old.graph) old = c.self.invariant in
    let none : ¬ IsIdle (state_of old) = λ idle.
    let found = c.no_queued.ensures.1 (subst (λ (l : List Place). (id : ℕ) → is_queued (slice_get l id) ≡ false) (sym c.as_slice.ensures.value) idle.queue) in
    (let bad : false ≡ true = sym c.if-no_queued.false ∙ found in cc) in
    let both : (IsTrue c.no_queued.result → IsIdle (state_of old)) × (IsIdle (state_of old) → IsTrue c.no_queued.result) = (λ yes_it. (let bad : false ≡ true = sym c.if-no_queued.false ∙ yes_it in absurd (cc)), λ idle. absurd (none idle)) in
    subst (λ (o : Kept g.row.G.Denot). (IsTrue c.no_queued.result → IsIdle (state_of o)) × (IsIdle (state_of o) → IsTrue c.no_queued.result)) is both
