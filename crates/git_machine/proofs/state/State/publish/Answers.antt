use Rattle.std.proofs.Common.{◌≡◌, ℕ, ◌+◌, ◌<◌, List, [], ◌∷◌, ◌++◌, ◌^◌, Option, Some, None, true, false, IsTrue, length, slice_index_or, slice_get, sym, ◌∙◌, ap, subst, arith, rules}
use Rattle.std.specs.List.{Contains}
use Rattle.git_machine.specs.declared.event.Event.TheVariants.{Publish}
use Rattle.git_machine.specs.declared.place.Place.TheVariants.{Queued}
use Rattle.git_machine.specs.Signatures.{Signature}
use Rattle.git_machine.specs.Machine.{happens}
use Rattle.git_machine.specs.States.{Kept, IsKept, IsAllowed, state_of, event_of}
use Rattle.git_machine.proofs.Steps.{may_publish, must_lead, must_be_new, publishes, keeps_publish, led_legal, hand_within, added}
use Rattle.git_machine.proofs.state.State.publish.Goals as goal

pub returns-then-not-contains-clause-refused : goal.returns-then-not-contains-clause-refused
returns-then-not-contains-clause-refused g c = λ _.
    let old : Kept g.row.G.Denot = record { graph = c.self.inside.graph.now; listed = c.self.inside.listed.items; places = c.self.inside.places.items; hands = c.self.inside.hands.items } in
    let is : old ≡ c.args.self.now = c.self.view_is in
    let h : IsKept (g.G.Successors.next old.graph) (g.G.Successors.legal old.graph) old = c.self.invariant in
    let given : (i : ℕ) (s : Signature) → slice_index_or old.hands c.args.worker None ≡ Some i → slice_get old.listed i ≡ Some s → g.G.Successors.next old.graph s c.args.next.now
    = subst (λ (o : Kept g.row.G.Denot). (i : ℕ) (s : Signature) → slice_index_or o.hands c.args.worker None ≡ Some i → slice_get o.listed i ≡ Some s → g.G.Successors.next o.graph s c.args.next.now) (sym is) c.requires.of_hand in
    let one = g.met.G.Successors.one_next old.graph in
    let never : IsAllowed (g.G.Successors.next old.graph) old (Publish c.args.worker c.args.sig) → ⊥ = λ a.
    let found : IsTrue c.contains.result = c.contains.ensures.1 (must_lead old (g.G.Successors.next old.graph) (g.G.Successors.legal old.graph) h c.args.worker c.args.next.now given one (length old.listed) c.args.sig a.0) in
    (let bad : false ≡ true = sym c.if-not-contains.true ∙ found in cc) in
    subst (λ (o : Kept g.row.G.Denot). IsAllowed (g.G.Successors.next o.graph) o (Publish c.args.worker c.args.sig) → ⊥) is never

pub returns-then-contains-clause-refused : goal.returns-then-contains-clause-refused
returns-then-contains-clause-refused g c = λ _.
    let old : Kept g.row.G.Denot = record { graph = c.self.inside.graph.now; listed = c.self.inside.listed.items; places = c.self.inside.places.items; hands = c.self.inside.hands.items } in
    let is : old ≡ c.args.self.now = c.self.view_is in
    let h : IsKept (g.G.Successors.next old.graph) (g.G.Successors.legal old.graph) old = c.self.invariant in
    let has : Contains old.listed c.args.sig = subst (λ (l : List Signature). Contains l c.args.sig) c.as_slice-2.ensures.value (c.contains-2.ensures.0 c.if-contains.true) in
    let never : IsAllowed (g.G.Successors.next old.graph) old (Publish c.args.worker c.args.sig) → ⊥ = λ a. must_be_new old (g.G.Successors.next old.graph) (g.G.Successors.legal old.graph) h c.args.worker (length old.listed) c.args.sig a.0 has in
    subst (λ (o : Kept g.row.G.Denot). IsAllowed (g.G.Successors.next o.graph) o (Publish c.args.worker c.args.sig) → ⊥) is never

pub returns-then-is_err-clause-memory : goal.returns-then-is_err-clause-memory
returns-then-is_err-clause-memory g c = λ _.
    let old : Kept g.row.G.Denot = record { graph = c.self.inside.graph.now; listed = c.self.inside.listed.items; places = c.self.inside.places.items; hands = c.self.inside.hands.items } in
    let is : old ≡ c.args.self.now = c.self.view_is in
    let h : IsKept (g.G.Successors.next old.graph) (g.G.Successors.legal old.graph) old = c.self.invariant in
    let given : (i : ℕ) (s : Signature) → slice_index_or old.hands c.args.worker None ≡ Some i → slice_get old.listed i ≡ Some s → g.G.Successors.next old.graph s c.args.next.now
    = subst (λ (o : Kept g.row.G.Denot). (i : ℕ) (s : Signature) → slice_index_or o.hands c.args.worker None ≡ Some i → slice_get o.listed i ≡ Some s → g.G.Successors.next o.graph s c.args.next.now) (sym is) c.requires.of_hand in
    let one = g.met.G.Successors.one_next old.graph in
    let some = c.has_hand.ensures.0 c.if-not-has_hand.false in
    let hand : slice_index_or old.hands c.args.worker None ≡ Some some.0 = subst (λ (l : List (Option ℕ)). slice_index_or l c.args.worker None ≡ Some some.0) c.as_slice.ensures.value some.1 in
    let new : ¬ Contains old.listed c.args.sig = λ has.
    let found : IsTrue c.contains-2.result = c.contains-2.ensures.1 (subst (λ (l : List Signature). Contains l c.args.sig) (sym c.as_slice-2.ensures.value) has) in
    (let bad : false ≡ true = sym c.if-contains.false ∙ found in cc) in
    let room : length old.listed + 1 < 2 ^ 32 = omega (arith, c.len.ensures, c.if-len.false) in
    let may = may_publish old (g.G.Successors.next old.graph) (g.G.Successors.legal old.graph) h c.args.worker c.args.next.now given some.0 c.args.sig hand (c.contains.ensures.0 c.if-not-contains.false) new in
    let allowed : IsAllowed (g.G.Successors.next old.graph) old (Publish c.args.worker c.args.sig) = (may, (hand_within old.hands c.args.worker some.0 hand, room)) in
    subst (λ (o : Kept g.row.G.Denot). IsAllowed (g.G.Successors.next o.graph) o (Publish c.args.worker c.args.sig)) is allowed

pub returns-then-is_err-2-clause-memory : goal.returns-then-is_err-2-clause-memory
returns-then-is_err-2-clause-memory g c = λ _.
    let old : Kept g.row.G.Denot = record { graph = c.self.inside.graph.now; listed = c.self.inside.listed.items; places = c.self.inside.places.items; hands = c.self.inside.hands.items } in
    let is : old ≡ c.args.self.now = c.self.view_is in
    let h : IsKept (g.G.Successors.next old.graph) (g.G.Successors.legal old.graph) old = c.self.invariant in
    let given : (i : ℕ) (s : Signature) → slice_index_or old.hands c.args.worker None ≡ Some i → slice_get old.listed i ≡ Some s → g.G.Successors.next old.graph s c.args.next.now
    = subst (λ (o : Kept g.row.G.Denot). (i : ℕ) (s : Signature) → slice_index_or o.hands c.args.worker None ≡ Some i → slice_get o.listed i ≡ Some s → g.G.Successors.next o.graph s c.args.next.now) (sym is) c.requires.of_hand in
    let one = g.met.G.Successors.one_next old.graph in
    let some = c.has_hand.ensures.0 c.if-not-has_hand.false in
    let hand : slice_index_or old.hands c.args.worker None ≡ Some some.0 = subst (λ (l : List (Option ℕ)). slice_index_or l c.args.worker None ≡ Some some.0) c.as_slice.ensures.value some.1 in
    let new : ¬ Contains old.listed c.args.sig = λ has.
    let found : IsTrue c.contains-2.result = c.contains-2.ensures.1 (subst (λ (l : List Signature). Contains l c.args.sig) (sym c.as_slice-2.ensures.value) has) in
    (let bad : false ≡ true = sym c.if-contains.false ∙ found in cc) in
    let room : length old.listed + 1 < 2 ^ 32 = omega (arith, c.len.ensures, c.if-len.false) in
    let may = may_publish old (g.G.Successors.next old.graph) (g.G.Successors.legal old.graph) h c.args.worker c.args.next.now given some.0 c.args.sig hand (c.contains.ensures.0 c.if-not-contains.false) new in
    let allowed : IsAllowed (g.G.Successors.next old.graph) old (Publish c.args.worker c.args.sig) = (may, (hand_within old.hands c.args.worker some.0 hand, room)) in
    subst (λ (o : Kept g.row.G.Denot). IsAllowed (g.G.Successors.next o.graph) o (Publish c.args.worker c.args.sig)) is allowed

pub invariant_of-self-else-is_err-2 : goal.invariant_of-self-else-is_err-2
invariant_of-self-else-is_err-2 g c =
    let old : Kept g.row.G.Denot = record { graph = c.self.inside.graph.now; listed = c.self.inside.listed.items; places = c.self.inside.places.items; hands = c.self.inside.hands.items } in
    let is : old ≡ c.args.self.now = c.self.view_is in
    let h : IsKept (g.G.Successors.next old.graph) (g.G.Successors.legal old.graph) old = c.self.invariant in
    let given : (i : ℕ) (s : Signature) → slice_index_or old.hands c.args.worker None ≡ Some i → slice_get old.listed i ≡ Some s → g.G.Successors.next old.graph s c.args.next.now
    = subst (λ (o : Kept g.row.G.Denot). (i : ℕ) (s : Signature) → slice_index_or o.hands c.args.worker None ≡ Some i → slice_get o.listed i ≡ Some s → g.G.Successors.next o.graph s c.args.next.now) (sym is) c.requires.of_hand in
    let one = g.met.G.Successors.one_next old.graph in
    let some = c.has_hand.ensures.0 c.if-not-has_hand.false in
    let hand : slice_index_or old.hands c.args.worker None ≡ Some some.0 = subst (λ (l : List (Option ℕ)). slice_index_or l c.args.worker None ≡ Some some.0) c.as_slice.ensures.value some.1 in
    let new : ¬ Contains old.listed c.args.sig = λ has.
    let found : IsTrue c.contains-2.result = c.contains-2.ensures.1 (subst (λ (l : List Signature). Contains l c.args.sig) (sym c.as_slice-2.ensures.value) has) in
    (let bad : false ≡ true = sym c.if-contains.false ∙ found in cc) in
    let room : length old.listed + 1 < 2 ^ 32 = omega (arith, c.len.ensures, c.if-len.false) in
    let may = may_publish old (g.G.Successors.next old.graph) (g.G.Successors.legal old.graph) h c.args.worker c.args.next.now given some.0 c.args.sig hand (c.contains.ensures.0 c.if-not-contains.false) new in
    let allowed : IsAllowed (g.G.Successors.next old.graph) old (Publish c.args.worker c.args.sig) = (may, (hand_within old.hands c.args.worker some.0 hand, room)) in
    let ok = led_legal old (g.G.Successors.next old.graph) (g.G.Successors.legal old.graph) h (g.met.G.Successors.next_legal old.graph) c.args.worker c.args.sig may.0 in
    let kept : IsKept (g.G.Successors.next old.graph) (g.G.Successors.legal old.graph) (added old c.args.sig) = keeps_publish old (g.G.Successors.next old.graph) (g.G.Successors.legal old.graph) h c.args.worker c.args.sig may ok in
    let places : c.push.new.self.items ≡ old.places ++ Queued ∷ [] = search rules in
    let listed : c.push-2.new.self.items ≡ old.listed ++ c.args.sig ∷ [] = search rules in
    let now : Kept g.row.G.Denot = record { graph = old.graph; listed = c.push-2.new.self.items; places = c.push.new.self.items; hands = old.hands } in
    let e : added old c.args.sig ≡ now = λ t. record { graph = old.graph; listed = sym listed t; places = sym places t; hands = old.hands } in
    subst (IsKept (g.G.Successors.next old.graph) (g.G.Successors.legal old.graph)) e kept

pub returns-clause-done : goal.returns-clause-done
returns-clause-done g c =
    let old : Kept g.row.G.Denot = record { graph = c.self.inside.graph.now; listed = c.self.inside.listed.items; places = c.self.inside.places.items; hands = c.self.inside.hands.items } in
    let is : old ≡ c.args.self.now = c.self.view_is in
    let h : IsKept (g.G.Successors.next old.graph) (g.G.Successors.legal old.graph) old = c.self.invariant in
    let given : (i : ℕ) (s : Signature) → slice_index_or old.hands c.args.worker None ≡ Some i → slice_get old.listed i ≡ Some s → g.G.Successors.next old.graph s c.args.next.now
    = subst (λ (o : Kept g.row.G.Denot). (i : ℕ) (s : Signature) → slice_index_or o.hands c.args.worker None ≡ Some i → slice_get o.listed i ≡ Some s → g.G.Successors.next o.graph s c.args.next.now) (sym is) c.requires.of_hand in
    let one = g.met.G.Successors.one_next old.graph in
    let some = c.has_hand.ensures.0 c.if-not-has_hand.false in
    let hand : slice_index_or old.hands c.args.worker None ≡ Some some.0 = subst (λ (l : List (Option ℕ)). slice_index_or l c.args.worker None ≡ Some some.0) c.as_slice.ensures.value some.1 in
    let new : ¬ Contains old.listed c.args.sig = λ has.
    let found : IsTrue c.contains-2.result = c.contains-2.ensures.1 (subst (λ (l : List Signature). Contains l c.args.sig) (sym c.as_slice-2.ensures.value) has) in
    (let bad : false ≡ true = sym c.if-contains.false ∙ found in cc) in
    let room : length old.listed + 1 < 2 ^ 32 = omega (arith, c.len.ensures, c.if-len.false) in
    let may = may_publish old (g.G.Successors.next old.graph) (g.G.Successors.legal old.graph) h c.args.worker c.args.next.now given some.0 c.args.sig hand (c.contains.ensures.0 c.if-not-contains.false) new in
    let allowed : IsAllowed (g.G.Successors.next old.graph) old (Publish c.args.worker c.args.sig) = (may, (hand_within old.hands c.args.worker some.0 hand, room)) in
    let places : c.push.new.self.items ≡ old.places ++ Queued ∷ [] = search rules in
    let listed : c.push-2.new.self.items ≡ old.listed ++ c.args.sig ∷ [] = search rules in
    let now : Kept g.row.G.Denot = record { graph = old.graph; listed = c.push-2.new.self.items; places = c.push.new.self.items; hands = old.hands } in
    let e : now ≡ added old c.args.sig = λ t. record { graph = old.graph; listed = listed t; places = places t; hands = old.hands } in
    let same : state_of now ≡ happens (state_of old) (event_of old (Publish c.args.worker c.args.sig)) = ap (λ (o : Kept g.row.G.Denot). state_of o) e ∙ publishes old c.args.worker c.args.sig h.long in
    subst (λ (o : Kept g.row.G.Denot). IsAllowed (g.G.Successors.next o.graph) o (Publish c.args.worker c.args.sig) × (state_of now ≡ happens (state_of o) (event_of o (Publish c.args.worker c.args.sig)))) is (allowed, same)
