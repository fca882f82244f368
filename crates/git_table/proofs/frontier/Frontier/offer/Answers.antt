use Rattle.std.proofs.Common.{◌<◌, sym, ◌∙◌, subst, arith}
use Rattle.git_visits.specs.declared.view.Key.{Key}
use Rattle.git_table.specs.Views.{FrontierView, SeatView, post_view}
use Rattle.git_table.specs.Calls.{OfferTells}
use Rattle.git_table.proofs.SeatViews.{own_key, led, tells, spare_held, offer_seat, offer_key, offer_tells, step_legal}
use Rattle.git_table.proofs.frontier.Frontier.offer.Goals as goal

pub offer-answer-requires-clause-sig : goal.offer-answer-requires-clause-sig
offer-answer-requires-clause-sig g c =
    let i = c.seat.invariant in let k = c.self.invariant in let key = c.self.inside.visited.table.shared.key in
    let own = own_key i c.seat.view_is k c.self.view_is c.requires.of in
    let l = led i c.seat.view_is k c.self.view_is c.requires.of g.G.Successors.next c.args.sig.now c.requires.leads in
    let fit = step_legal (g.G.Successors.legal i.known.key.graph.value) (g.G.Successors.next i.known.key.graph.value) (g.met.G.Successors.next_legal i.known.key.graph.value) l.0 c.args.sig.now (i.seen_fit l.1 l.0 l.2).1 l.3 in
    let w = g.met.G.Successors.has_width key.graph.value c.args.sig.now (subst (λ (q : Key g.row.G.Denot). g.G.Successors.legal q.graph.value c.args.sig.now) own fit) in
    w ∙ (sym (g.met.G.Successors.has_width key.graph.value key.first.value k.first_legal) ∙ (sym k.key_is.width ∙ sym c.self.inside.visited.width_is))

pub offer-answer-requires-clause-view : goal.offer-answer-requires-clause-view
offer-answer-requires-clause-view g c =
    let i = c.seat.invariant in let k = c.self.invariant in
    (i.known, i.is, (own_key i c.seat.view_is k c.self.view_is c.requires.of, i.rests, spare_held i c.front-spare.result c.front-spare.ensures, led i c.seat.view_is k c.self.view_is c.requires.of g.G.Successors.next c.args.sig.now c.requires.leads))

pub invariant_of-seat : goal.invariant_of-seat
invariant_of-seat g c =
    let i = c.seat.invariant in let k = c.self.invariant in let t = c.offer-answer.ensures.told i.known i.is in
    let l = led i c.seat.view_is k c.self.view_is c.requires.of g.G.Successors.next c.args.sig.now c.requires.leads in
    let fit = step_legal (g.G.Successors.legal i.known.key.graph.value) (g.G.Successors.next i.known.key.graph.value) (g.met.G.Successors.next_legal i.known.key.graph.value) l.0 c.args.sig.now (i.seen_fit l.1 l.0 l.2).1 l.3 in
    offer_seat i c.offer-answer.new.seat c.offer-answer.ensures.own.1 t.0 t.1 c.args.sig.now fit c.offer-answer.result.0 t.2.0 c.offer-answer.result.1 t.2.1 c.put-seat-inside.new.spares c.behind.result c.put-seat-inside.result c.behind.ensures c.put-seat-inside.ensures.few c.put-seat-inside.ensures.stack

pub returns : goal.returns
returns g c =
    let i = c.seat.invariant in let k = c.self.invariant in let new = c.offer-answer.new.seat in let t = c.offer-answer.ensures.told i.known i.is in
    let pos : 0 < i.known.key.hashes = let h = i.key_is.hashes in omega arith in
    tells i c.seat.view_is k c.self.view_is c.requires.of (λ (f : FrontierView g.row.G.Denot) (s : SeatView g.row.G.Denot). OfferTells f s (post_view new.table_id new.me.0) c.args.sig.now c.offer-answer.result.0)
    (offer_tells i.known c.seat.inside.raw.table_id i.key_is new.me.0 new.table_id c.offer-answer.ensures.own.0 c.args.sig.now t.0 t.1 (offer_key i t.0 c.args.sig.now c.offer-answer.result.0 t.2.0) pos c.offer-answer.result.0 t.2.0)
