use Rattle.std.proofs.Common.{ℕ, ◌+◌, ◌<◌, Option, subst, sym}
use Rattle.git_table.specs.Views.{IsSeat, SeatView, FrontierView, post_view}
use Rattle.git_table.specs.Calls.{HintTells}
use Rattle.git_table.proofs.SeatViews.{own_key, front_is, no_hand, tells, hint_tells, hint_seat}
use Rattle.git_table.proofs.frontier.Frontier.take_hint.Goals as goal

pub take_hint-hinted-requires-clause-view : goal.take_hint-hinted-requires-clause-view
take_hint-hinted-requires-clause-view g c = let i = c.seat.invariant in (i.known, i.is, (own_key i c.seat.view_is c.self.invariant c.self.view_is c.requires.of, no_hand i c.seat.view_is c.requires.free, i.rests.3))

pub invariant_of-seat : goal.invariant_of-seat
invariant_of-seat g c =
    let i = c.seat.invariant in
    let low = subst (λ (f : FrontierView g.row.G.Denot). c.args.id < f.cap + f.workers) (sym (front_is i c.seat.view_is c.self.invariant c.self.view_is c.requires.of)) c.requires.inside in
    subst (λ (h : Option ℕ). IsSeat g.G.Successors.legal c.take_hint-hinted.new.seat c.seat.inside.spares c.seat.inside.count h) (sym c.hinted_hand-seat-inside.ensures)
    (hint_seat i c.take_hint-hinted.new.seat c.take_hint-hinted.ensures.own.1 (no_hand i c.seat.view_is c.requires.free) c.args.id low c.take_hint-hinted.result (c.take_hint-hinted.ensures.told i.known i.is))

pub returns : goal.returns
returns g c =
    let i = c.seat.invariant in let new = c.take_hint-hinted.new.seat in
    tells i c.seat.view_is c.self.invariant c.self.view_is c.requires.of (λ (f : FrontierView g.row.G.Denot) (s : SeatView g.row.G.Denot). HintTells f s (post_view new.table_id new.me.0) c.args.id c.take_hint-hinted.result)
    (hint_tells i.known c.seat.inside.raw.table_id i.key_is new.me.0 new.table_id c.take_hint-hinted.ensures.own.0 c.args.id c.take_hint-hinted.result (c.take_hint-hinted.ensures.told i.known i.is))
