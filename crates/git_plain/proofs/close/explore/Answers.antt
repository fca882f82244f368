use Rattle.std.proofs.Common.{◌≡◌, ◌<◌, ◌≤◌, ◌+◌, ℕ, List, Some, [], ◌∷◌, ◌++◌, length, take, get_or, slice_get, sym, ◌∙◌, ap, subst, rules, length-append}
use Rattle.std.specs.List.{All}
use Rattle.std.proofs.lemmas.List.Elements.{All-contains, All-push}
use Rattle.std.proofs.lemmas.Option.{slice_get_within, get_or_from_slice_get}
use Rattle.git_machine.specs.declared.successors.Found.{Found}
use Rattle.git_machine.specs.Signatures.{Signature}
use Rattle.git_machine.specs.Reach.{IsReach}
use Rattle.git_plain.specs.Closing.{IsGrown, IsClosedTo, signatures_of}
use Rattle.git_plain.proofs.Closes.{steps, ends, overflows, found_more, found_all}
use Rattle.git_plain.proofs.close.explore.Goals as goal

pub loop-listed-preserved : goal.loop-listed-preserved
loop-listed-preserved g c =
    let next = g.G.Successors.next c.args.graph.now in
    let legal = g.G.Successors.legal c.args.graph.now in
    let x : Signature = c.in-Some.listed.now in
    let xs : List Signature = c.loop-listed.sigs.keys in
    let n : ℕ = length c.loop-listed.found.items in
    let at : slice_get xs n ≡ Some x = search rules in
    let inside : n < length xs = slice_get_within xs n x at in
    let is : get_or xs n x ≡ x = get_or_from_slice_get xs n x x at in
    let ns : List Signature = c.in_ok-next.next.items in
    let rel : g.G.Successors.next c.args.graph.now x c.in_ok-next.next.items = search rules in
    let law = g.met.G.Successors in
    let new : List Signature = c.list_all.new.sigs.keys in
    let grown : IsGrown xs c.in_ok-next.next.items c.list_all.new.sigs.keys = search rules in
    let small : length xs ≤ c.args.cap → length c.list_all.new.sigs.keys ≤ c.args.cap = search rules in
    let f : Found g.row.G-Payload.Denot = record { sig = c.in_ok-sig.sig; payload = c.in_ok-next.payload } in
    let pushed : c.push.new.self.items ≡ c.loop-listed.found.items ++ f ∷ [] = search rules in
    let long : length c.push.new.self.items ≡ n + 1 = ap (λ (l : List (Found g.row.G-Payload.Denot)). length l) pushed ∙ length-append c.loop-listed.found.items (f ∷ []) in
    let legal_x = All-contains legal xs x c.loop-listed.invariant.closed.legal_all (n, inside, is) in
    let closed = steps next c.args.first.now legal xs ns n x c.loop-listed.invariant.closed inside is rel new grown (λ a r. law.one_next c.args.graph.now x a ns legal_x r rel) (law.next_legal c.args.graph.now x ns legal_x rel) in
    let sig : x ≡ f.sig = search rules in
    let read : get_or xs n f.sig ≡ f.sig = subst (λ (s : Signature). get_or xs n s ≡ s) sig is in
    let pay : g.G.Successors.payload c.args.graph.now x c.in_ok-next.payload = search rules in
    let R : Found g.row.G-Payload.Denot → Type 0 = λ h. g.G.Successors.payload c.args.graph.now h.sig h.payload in record {
      closed = subst (IsClosedTo next c.args.first.now legal new) (sym long) closed;
      few = small c.loop-listed.invariant.few;
      front = ap (λ (l : List (Found g.row.G-Payload.Denot)). signatures_of l) pushed ∙ (found_more c.loop-listed.found.items f xs ns new grown inside read c.loop-listed.invariant.front ∙ ap (λ (m : ℕ). take m new) (sym long));
      paid = subst (All R) (sym pushed) (All-push R c.loop-listed.found.items f c.loop-listed.invariant.paid (subst (λ (s : Signature). g.G.Successors.payload c.args.graph.now s c.in_ok-next.payload) sig pay));
    }

pub returns-in-Err-clause-full : goal.returns-in-Err-clause-full
returns-in-Err-clause-full g c = λ e.
    let next = g.G.Successors.next c.args.graph.now in
    let legal = g.G.Successors.legal c.args.graph.now in
    let x : Signature = c.in-Some.listed.now in
    let xs : List Signature = c.loop-listed.sigs.keys in
    let n : ℕ = length c.loop-listed.found.items in
    let at : slice_get xs n ≡ Some x = search rules in
    let inside : n < length xs = slice_get_within xs n x at in
    let is : get_or xs n x ≡ x = get_or_from_slice_get xs n x x at in
    let ns : List Signature = c.in_ok-next.field-0.next.items in
    let rel : g.G.Successors.next c.args.graph.now x c.in_ok-next.field-0.next.items = search rules in
    let full = c.in-Err.ensures.full (cc) in
    overflows next c.args.first.now legal xs ns n x c.loop-listed.invariant.closed inside is rel c.args.cap full.0 c.list_all.new.sigs.keys full.1 full.2 full.3

pub returns-clause-reach : goal.returns-clause-reach
returns-clause-reach g c =
    let next = g.G.Successors.next c.args.graph.now in
    let legal = g.G.Successors.legal c.args.graph.now in
    let xs : List Signature = c.loop-listed.sigs.keys in
    let all : length c.loop-listed.sigs.keys ≤ length c.loop-listed.found.items = search rules in
    subst (IsReach next c.args.first.now) (found_all c.loop-listed.found.items xs c.loop-listed.invariant.front all)
    (ends next c.args.first.now legal xs (length c.loop-listed.found.items) c.loop-listed.invariant.closed all)
