use Rattle.std.proofs.Common.{◌≡◌, ℕ, ◌<◌, List, Option, Some, None, true, false, IsTrue, length, slice_index_or, slice_get, sym, ◌∙◌, subst, arith, refl}
use Rattle.std.proofs.lemmas.Option.{slice_get_read}
use Rattle.git_machine.specs.declared.event.Event.TheVariants.{Meet}
use Rattle.git_machine.specs.Signatures.{Signature}
use Rattle.git_machine.specs.States.{Kept, IsKept, IsAllowed}
use Rattle.git_machine.proofs.Steps.{may_meet, must_meet, hand_within}
use Rattle.git_machine.proofs.state.State.meet.Goals as goal

pub returns-then-not-contains-clause-refused : goal.returns-then-not-contains-clause-refused
returns-then-not-contains-clause-refused g c =
    let old : Kept g.row.G.Denot = record { graph = c.self.inside.graph.now; listed = c.self.inside.listed.items; places = c.self.inside.places.items; hands = c.self.inside.hands.items } in
    let is : old ≡ c.args.self.now = c.self.view_is in
    let h : IsKept (g.G.Successors.next old.graph) (g.G.Successors.legal old.graph) old = c.self.invariant in
    let given : (i : ℕ) (s : Signature) → slice_index_or old.hands c.args.worker None ≡ Some i → slice_get old.listed i ≡ Some s → g.G.Successors.next old.graph s c.args.next.now
    = subst (λ (o : Kept g.row.G.Denot). (i : ℕ) (s : Signature) → slice_index_or o.hands c.args.worker None ≡ Some i → slice_get o.listed i ≡ Some s → g.G.Successors.next o.graph s c.args.next.now) (sym is) c.requires.of_hand in
    let one = g.met.G.Successors.one_next old.graph in
    let low : c.args.id < length old.listed = omega (arith, c.len.ensures, c.if-i-len.false) in
    let at : slice_get old.listed c.args.id ≡ Some c.index.result.now = slice_get_read old.listed (length old.listed) c.args.id c.index.result.now refl low c.index.ensures in
    let never : IsAllowed (g.G.Successors.next old.graph) old (Meet c.args.worker c.args.id) → ⊥ = λ a.
    let found : IsTrue c.contains.result = c.contains.ensures.1 (must_meet old (g.G.Successors.next old.graph) (g.G.Successors.legal old.graph) h c.args.worker c.args.next.now given one c.args.id c.index.result.now at a.0) in
    (let bad : false ≡ true = sym c.if-not-contains.true ∙ found in cc) in
    subst (λ (o : Kept g.row.G.Denot). IsAllowed (g.G.Successors.next o.graph) o (Meet c.args.worker c.args.id) → ⊥) is never

pub returns-clause-done : goal.returns-clause-done
returns-clause-done g c =
    let old : Kept g.row.G.Denot = record { graph = c.self.inside.graph.now; listed = c.self.inside.listed.items; places = c.self.inside.places.items; hands = c.self.inside.hands.items } in
    let is : old ≡ c.args.self.now = c.self.view_is in
    let h : IsKept (g.G.Successors.next old.graph) (g.G.Successors.legal old.graph) old = c.self.invariant in
    let given : (i : ℕ) (s : Signature) → slice_index_or old.hands c.args.worker None ≡ Some i → slice_get old.listed i ≡ Some s → g.G.Successors.next old.graph s c.args.next.now
    = subst (λ (o : Kept g.row.G.Denot). (i : ℕ) (s : Signature) → slice_index_or o.hands c.args.worker None ≡ Some i → slice_get o.listed i ≡ Some s → g.G.Successors.next o.graph s c.args.next.now) (sym is) c.requires.of_hand in
    let one = g.met.G.Successors.one_next old.graph in
    let low : c.args.id < length old.listed = omega (arith, c.len.ensures, c.if-i-len.false) in
    let at : slice_get old.listed c.args.id ≡ Some c.index.result.now = slice_get_read old.listed (length old.listed) c.args.id c.index.result.now refl low c.index.ensures in
    let some = c.has_hand.ensures.0 c.if-not-has_hand.false in
    let hand : slice_index_or old.hands c.args.worker None ≡ Some some.0 = subst (λ (l : List (Option ℕ)). slice_index_or l c.args.worker None ≡ Some some.0) c.as_slice.ensures.value some.1 in
    let allowed : IsAllowed (g.G.Successors.next old.graph) old (Meet c.args.worker c.args.id)
    = (may_meet old (g.G.Successors.next old.graph) (g.G.Successors.legal old.graph) h c.args.worker c.args.next.now given some.0 c.args.id c.index.result.now hand at (c.contains.ensures.0 c.if-not-contains.false), hand_within old.hands c.args.worker some.0 hand) in
    subst (λ (o : Kept g.row.G.Denot). IsAllowed (g.G.Successors.next o.graph) o (Meet c.args.worker c.args.id)) is allowed
