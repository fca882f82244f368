use Rattle.std.proofs.Common.{◌≡◌, ℕ, List, Option, Some, None, true, false, IsTrue, slice_index_or, slice_get, sym, ◌∙◌, subst, arith}
use Rattle.std.specs.List.{All, Contains}
use Rattle.git_machine.specs.declared.event.Event.TheVariants.{Finish}
use Rattle.git_machine.specs.Signatures.{Signature}
use Rattle.git_machine.specs.Machine.{happens}
use Rattle.git_machine.specs.States.{Kept, IsKept, IsAllowed, state_of, event_of}
use Rattle.git_machine.proofs.Steps.{may_finish, must_explore, finishes, keeps_finish, hand_unqueued, hand_within, listed_place, did}
use Rattle.git_machine.proofs.state.State.finish.Goals as goal

pub returns-then-not-contains_all-clause-refused : goal.returns-then-not-contains_all-clause-refused
returns-then-not-contains_all-clause-refused g c =
    let old : Kept g.row.G.Denot = record { graph = c.self.inside.graph.now; listed = c.self.inside.listed.items; places = c.self.inside.places.items; hands = c.self.inside.hands.items } in
    let is : old ≡ c.args.self.now = c.self.view_is in
    let h : IsKept (g.G.Successors.next old.graph) (g.G.Successors.legal old.graph) old = c.self.invariant in
    let given : (i : ℕ) (s : Signature) → slice_index_or old.hands c.args.worker None ≡ Some i → slice_get old.listed i ≡ Some s → g.G.Successors.next old.graph s c.args.next.now
    = subst (λ (o : Kept g.row.G.Denot). (i : ℕ) (s : Signature) → slice_index_or o.hands c.args.worker None ≡ Some i → slice_get o.listed i ≡ Some s → g.G.Successors.next o.graph s c.args.next.now) (sym is) c.requires.of_hand in
    let one = g.met.G.Successors.one_next old.graph in
    let never : IsAllowed (g.G.Successors.next old.graph) old (Finish c.args.worker c.args.id) → ⊥ = λ a.
    let all = must_explore old (g.G.Successors.next old.graph) (g.G.Successors.legal old.graph) h c.args.worker c.args.next.now given c.args.id a.0 in
    let found : IsTrue c.contains_all.result = c.contains_all.ensures.1 (subst (λ (l : List Signature). All (Contains l) c.args.next.now) (sym c.as_slice-2.ensures.value) all) in
    (let bad : false ≡ true = sym c.if-not-contains_all.true ∙ found in cc) in
    subst (λ (o : Kept g.row.G.Denot). IsAllowed (g.G.Successors.next o.graph) o (Finish c.args.worker c.args.id) → ⊥) is never

pub index_mut-requires-2 : goal.index_mut-requires-2
index_mut-requires-2 g c =
    let old : Kept g.row.G.Denot = record { graph = c.self.inside.graph.now; listed = c.self.inside.listed.items; places = c.self.inside.places.items; hands = c.self.inside.hands.items } in
    let is : old ≡ c.args.self.now = c.self.view_is in
    let h : IsKept (g.G.Successors.next old.graph) (g.G.Successors.legal old.graph) old = c.self.invariant in
    let hand : slice_index_or old.hands c.args.worker None ≡ Some c.args.id
    = subst (λ (l : List (Option ℕ)). slice_index_or l c.args.worker None ≡ Some c.args.id) c.as_slice.ensures.value (c.is_in_hand.ensures.0 c.if-not-is_in_hand.false) in
    let at = listed_place old (g.G.Successors.next old.graph) (g.G.Successors.legal old.graph) h c.args.worker c.args.id hand in omega (arith, at, c.self.inside.places.ok)

pub invariant_of-self : goal.invariant_of-self
invariant_of-self g c =
    let old : Kept g.row.G.Denot = record { graph = c.self.inside.graph.now; listed = c.self.inside.listed.items; places = c.self.inside.places.items; hands = c.self.inside.hands.items } in
    let is : old ≡ c.args.self.now = c.self.view_is in
    let h : IsKept (g.G.Successors.next old.graph) (g.G.Successors.legal old.graph) old = c.self.invariant in
    let given : (i : ℕ) (s : Signature) → slice_index_or old.hands c.args.worker None ≡ Some i → slice_get old.listed i ≡ Some s → g.G.Successors.next old.graph s c.args.next.now
    = subst (λ (o : Kept g.row.G.Denot). (i : ℕ) (s : Signature) → slice_index_or o.hands c.args.worker None ≡ Some i → slice_get o.listed i ≡ Some s → g.G.Successors.next o.graph s c.args.next.now) (sym is) c.requires.of_hand in
    let one = g.met.G.Successors.one_next old.graph in
    let hand : slice_index_or old.hands c.args.worker None ≡ Some c.args.id
    = subst (λ (l : List (Option ℕ)). slice_index_or l c.args.worker None ≡ Some c.args.id) c.as_slice.ensures.value (c.is_in_hand.ensures.0 c.if-not-is_in_hand.false) in
    let all : All (Contains old.listed) c.args.next.now
    = subst (λ (l : List Signature). All (Contains l) c.args.next.now) c.as_slice-2.ensures.value (c.contains_all.ensures.0 c.if-not-contains_all.false) in
    keeps_finish old (g.G.Successors.next old.graph) (g.G.Successors.legal old.graph) h c.args.worker c.args.id (hand_within old.hands c.args.worker c.args.id hand) (listed_place old (g.G.Successors.next old.graph) (g.G.Successors.legal old.graph) h c.args.worker c.args.id hand) hand
    (may_finish old (g.G.Successors.next old.graph) (g.G.Successors.legal old.graph) h c.args.worker c.args.next.now given one c.args.id hand all).1

pub returns-clause-done : goal.returns-clause-done
returns-clause-done g c =
    let old : Kept g.row.G.Denot = record { graph = c.self.inside.graph.now; listed = c.self.inside.listed.items; places = c.self.inside.places.items; hands = c.self.inside.hands.items } in
    let is : old ≡ c.args.self.now = c.self.view_is in
    let h : IsKept (g.G.Successors.next old.graph) (g.G.Successors.legal old.graph) old = c.self.invariant in
    let given : (i : ℕ) (s : Signature) → slice_index_or old.hands c.args.worker None ≡ Some i → slice_get old.listed i ≡ Some s → g.G.Successors.next old.graph s c.args.next.now
    = subst (λ (o : Kept g.row.G.Denot). (i : ℕ) (s : Signature) → slice_index_or o.hands c.args.worker None ≡ Some i → slice_get o.listed i ≡ Some s → g.G.Successors.next o.graph s c.args.next.now) (sym is) c.requires.of_hand in
    let one = g.met.G.Successors.one_next old.graph in
    let hand : slice_index_or old.hands c.args.worker None ≡ Some c.args.id
    = subst (λ (l : List (Option ℕ)). slice_index_or l c.args.worker None ≡ Some c.args.id) c.as_slice.ensures.value (c.is_in_hand.ensures.0 c.if-not-is_in_hand.false) in
    let all : All (Contains old.listed) c.args.next.now
    = subst (λ (l : List Signature). All (Contains l) c.args.next.now) c.as_slice-2.ensures.value (c.contains_all.ensures.0 c.if-not-contains_all.false) in
    let allowed : IsAllowed (g.G.Successors.next old.graph) old (Finish c.args.worker c.args.id) = (may_finish old (g.G.Successors.next old.graph) (g.G.Successors.legal old.graph) h c.args.worker c.args.next.now given one c.args.id hand all, hand_within old.hands c.args.worker c.args.id hand) in
    let same : state_of ((λ (o : Kept g.row.G.Denot). did o c.args.worker c.args.id) old) ≡ happens (state_of old) (event_of old (Finish c.args.worker c.args.id)) = finishes old c.args.worker c.args.id (hand_within old.hands c.args.worker c.args.id hand) (listed_place old (g.G.Successors.next old.graph) (g.G.Successors.legal old.graph) h c.args.worker c.args.id hand) (hand_unqueued old (g.G.Successors.next old.graph) (g.G.Successors.legal old.graph) h c.args.worker c.args.id hand) in
    subst (λ (o : Kept g.row.G.Denot). IsAllowed (g.G.Successors.next o.graph) o (Finish c.args.worker c.args.id) × (state_of ((λ (o : Kept g.row.G.Denot). did o c.args.worker c.args.id) old) ≡ happens (state_of o) (event_of o (Finish c.args.worker c.args.id)))) is (allowed, same)
