use Rattle.git_table.specs.Views.{SeatView, FrontierView, post_view}
use Rattle.git_table.specs.Calls.{StopTells}
use Rattle.git_table.proofs.SeatViews.{own_key, again, tells, stop_tells}
use Rattle.git_table.proofs.frontier.Frontier.stopped.Goals as goal

pub stopped-requires-clause-view : goal.stopped-requires-clause-view
stopped-requires-clause-view g c = let i = c.seat.invariant in (i.known, i.is, own_key i c.seat.view_is c.self.invariant c.self.view_is c.requires.of)

pub invariant_of-seat : goal.invariant_of-seat
invariant_of-seat g c = let i = c.seat.invariant in let t = c.stopped.ensures.told i.known i.is in again i c.stopped.new.seat c.stopped.ensures.own.1 i.known.work _ t.2 i.rests.1 i.rests.2 i.rests.3 c.seat.inside.hand i.hand_is i.hand_low

pub returns : goal.returns
returns g c =
    let i = c.seat.invariant in let new = c.stopped.new.seat in
    tells i c.seat.view_is c.self.invariant c.self.view_is c.requires.of (λ (f : FrontierView g.row.G.Denot) (s : SeatView g.row.G.Denot). StopTells f s (post_view new.table_id new.me.0) c.stopped.result)
    (stop_tells i.known c.seat.inside.raw.table_id i.key_is new.me.0 new.table_id c.stopped.ensures.own.0 c.stopped.result (c.stopped.ensures.told i.known i.is))
