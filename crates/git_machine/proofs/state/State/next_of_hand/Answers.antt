use Rattle.std.proofs.Common.{◌≡◌, ℕ, ◌<◌, List, [], Option, Some, None, length, slice_index_or, slice_get, sym, ◌∙◌, ap, subst, arith, refl}
use Rattle.std.proofs.lemmas.Option.{slice_get_read, slice_get_within}
use Rattle.git_machine.specs.Signatures.{Signature}
use Rattle.git_machine.specs.States.{Kept, IsKept}
use Rattle.git_machine.proofs.Steps.{hand_listed, legal_at}
use Rattle.git_machine.proofs.state.State.next_of_hand.Goals as goal

pub index-requires : goal.index-requires
index-requires g c =
    let old : Kept g.row.G.Denot = record { graph = c.self.inside.graph.now; listed = c.self.inside.listed.items; places = c.self.inside.places.items; hands = c.self.inside.hands.items } in
    let is : old ≡ c.args.self.now = c.self.view_is in
    let h : IsKept (g.G.Successors.next old.graph) (g.G.Successors.legal old.graph) old = c.self.invariant in
    let hand : slice_index_or old.hands c.args.worker None ≡ Some c.in-Some.id
    = subst (λ (l : List (Option ℕ)). slice_index_or l c.args.worker None ≡ Some c.in-Some.id) c.as_slice.ensures.value (sym c.hand_at.ensures ∙ c.in-Some.is) in
    let listed = hand_listed old (g.G.Successors.next old.graph) (g.G.Successors.legal old.graph) h c.args.worker c.in-Some.id hand in
    let low : c.in-Some.id < length old.listed = slice_get_within old.listed c.in-Some.id listed.0 listed.1 in
    omega (arith, low, c.self.inside.listed.ok)

pub expand-requires : goal.expand-requires
expand-requires g c =
    let old : Kept g.row.G.Denot = record { graph = c.self.inside.graph.now; listed = c.self.inside.listed.items; places = c.self.inside.places.items; hands = c.self.inside.hands.items } in
    let is : old ≡ c.args.self.now = c.self.view_is in
    let h : IsKept (g.G.Successors.next old.graph) (g.G.Successors.legal old.graph) old = c.self.invariant in
    let hand : slice_index_or old.hands c.args.worker None ≡ Some c.in-Some.id
    = subst (λ (l : List (Option ℕ)). slice_index_or l c.args.worker None ≡ Some c.in-Some.id) c.as_slice.ensures.value (sym c.hand_at.ensures ∙ c.in-Some.is) in
    let listed = hand_listed old (g.G.Successors.next old.graph) (g.G.Successors.legal old.graph) h c.args.worker c.in-Some.id hand in
    let low : c.in-Some.id < length old.listed = slice_get_within old.listed c.in-Some.id listed.0 listed.1 in
    let x : slice_get old.listed c.in-Some.id ≡ Some c.index.result.now = slice_get_read old.listed (length old.listed) c.in-Some.id c.index.result.now refl low c.index.ensures in
    legal_at old (g.G.Successors.next old.graph) (g.G.Successors.legal old.graph) h c.in-Some.id c.index.result.now x

pub returns : goal.returns
returns g c =
    let old : Kept g.row.G.Denot = record { graph = c.self.inside.graph.now; listed = c.self.inside.listed.items; places = c.self.inside.places.items; hands = c.self.inside.hands.items } in
    let is : old ≡ c.args.self.now = c.self.view_is in
    let h : IsKept (g.G.Successors.next old.graph) (g.G.Successors.legal old.graph) old = c.self.invariant in
    let hand : slice_index_or old.hands c.args.worker None ≡ Some c.in-Some.id
    = subst (λ (l : List (Option ℕ)). slice_index_or l c.args.worker None ≡ Some c.in-Some.id) c.as_slice.ensures.value (sym c.hand_at.ensures ∙ c.in-Some.is) in
    let listed = hand_listed old (g.G.Successors.next old.graph) (g.G.Successors.legal old.graph) h c.args.worker c.in-Some.id hand in
    let low : c.in-Some.id < length old.listed = slice_get_within old.listed c.in-Some.id listed.0 listed.1 in
    let x : slice_get old.listed c.in-Some.id ≡ Some c.index.result.now = slice_get_read old.listed (length old.listed) c.in-Some.id c.index.result.now refl low c.index.ensures in
    let ns : List Signature = c.in_ok-next.field-0.next.items in
    let rel : g.G.Successors.next old.graph c.index.result.now ns = c.in_ok-next.ensures.next in
    let of_hand : (i : ℕ) (s : Signature) → slice_index_or old.hands c.args.worker None ≡ Some i → slice_get old.listed i ≡ Some s → g.G.Successors.next old.graph s ns
    = λ i s has at.
    let ids : Some i ≡ Some c.in-Some.id = sym has ∙ hand in
    let i' : i ≡ c.in-Some.id = cc in
    let sigs : Some c.index.result.now ≡ Some s = sym x ∙ (ap (slice_get old.listed) (sym i') ∙ at) in
    let s' : c.index.result.now ≡ s = cc in
    subst (λ (t : Signature). g.G.Successors.next old.graph t ns) s' rel in
    let no_hand : slice_index_or old.hands c.args.worker None ≡ None → ns ≡ [] = λ none. let bad = sym hand ∙ none in absurd (cc) in record {
      of_hand = subst (λ (o : Kept g.row.G.Denot). (i : ℕ) (s : Signature) → slice_index_or o.hands c.args.worker None ≡ Some i → slice_get o.listed i ≡ Some s → g.G.Successors.next o.graph s ns) is of_hand;
      no_hand = subst (λ (o : Kept g.row.G.Denot). slice_index_or o.hands c.args.worker None ≡ None → ns ≡ []) is no_hand;
    }
