use Rattle.std.proofs.Common.{◌≡◌, ℕ, List, [], ◌∷◌, ◌++◌, IsTrue, sym, ◌∙◌, subst, rules}
use Rattle.std.specs.List.{Contains}
use Rattle.git_machine.specs.declared.successors.Found.{Found}
use Rattle.git_machine.specs.Signatures.{Signature}
use Rattle.git_table.specs.Views.{SeatView}
use Rattle.git_table.specs.Calls.{Sees}
use Rattle.git_crew.specs.Members.{IsReady}
use Rattle.git_crew.proofs.Keeping.{keeps_then, keeps_read, sees_read, ready_again}
use Rattle.git_crew.proofs.expand.expand.Goals as goal

pub finish-requires-clause-hand : goal.finish-requires-clause-hand
finish-requires-clause-hand g c =
    let next = g.G.Successors.next in
    let x : Signature = c.in_ok-sig.sig in
    let s : SeatView g.row.G.Denot = c.args.seat.now in
    let keeps = keeps_then s c.read_hand.new.seat c.offer_all.new.seat (keeps_read s c.read_hand.new.seat c.args.id x c.in_ok-sig.ensures.seen) c.offer_all.ensures.keeps in
    let sees = sees_read s c.read_hand.new.seat c.args.id x c.in_ok-sig.ensures.seen in
    let yes : IsTrue c.offer_all.result = search rules in
    let all : (y : Signature) → Contains c.in_ok-next.field-0.next.items y → (q : ℕ) × Sees c.offer_all.new.seat q y = c.offer_all.ensures.offered yes in
    let rel : g.G.Successors.next c.args.graph.now c.in_ok-sig.sig c.in_ok-next.field-0.next.items = search rules in (
      c.args.id,
      x,
      keeps.hand ∙ c.requires.hand,
      c.offer_all.ensures.keeps.sees c.args.id x sees,
      λ y leads.
          let to = subst (λ (h : g.row.G.Denot). g.G.Successors.next h c.in_ok-sig.sig leads.0) c.requires.graph leads.1 in
          let same : leads.0 ≡ c.in_ok-next.field-0.next.items = g.met.G.Successors.one_next c.args.graph.now x leads.0 c.in_ok-next.field-0.next.items c.in_ok-sig.ensures.legal to rel in
          all y (subst (λ (l : List Signature). Contains l y) same leads.2),
    )

pub returns-clause-done : goal.returns-clause-done
returns-clause-done g c =
    let x : Signature = c.in_ok-sig.sig in
    let s : SeatView g.row.G.Denot = c.args.seat.now in
    let keeps = keeps_then s c.read_hand.new.seat c.offer_all.new.seat (keeps_read s c.read_hand.new.seat c.args.id x c.in_ok-sig.ensures.seen) c.offer_all.ensures.keeps in
    let sees = sees_read s c.read_hand.new.seat c.args.id x c.in_ok-sig.ensures.seen in
    let h : Found g.row.G-Payload.Denot = record { sig = c.in_ok-sig.sig; payload = c.in_ok-next.payload } in
    let pushed : c.push.new.self.items ≡ c.args.found.now.items ++ h ∷ [] = search rules in
    let pay : g.G.Successors.payload c.args.graph.now c.in_ok-sig.sig c.in_ok-next.payload = search rules in
    let told = subst (λ (f : g.row.G.Denot). g.G.Successors.payload f c.in_ok-sig.sig c.in_ok-next.payload) (sym c.requires.graph) pay in
    subst (IsReady g.G.Successors.next g.G.Successors.payload c.args.frontier.now s.places c.finish.new.seat) (sym pushed)
    (ready_again g.G.Successors.next g.G.Successors.payload c.args.frontier.now s c.offer_all.new.seat c.finish.new.seat c.args.id c.args.found.now.items h c.requires.kept keeps (c.offer_all.ensures.keeps.sees c.args.id x sees)
    (c.finish.ensures c.args.id (keeps.hand ∙ c.requires.hand)) (c.in_ok-sig.ensures.reached, told))
