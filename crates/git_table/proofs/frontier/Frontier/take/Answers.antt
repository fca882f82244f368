use Rattle.std.proofs.Common.{ℕ, Option, subst, sym}
use Rattle.git_table.specs.Views.{IsSeat, SeatView, FrontierView, post_view}
use Rattle.git_table.specs.Calls.{TakeTells}
use Rattle.git_table.proofs.SeatViews.{own_key, no_hand, tells, take_tells, take_seat}
use Rattle.git_table.proofs.frontier.Frontier.take.Goals as goal

pub take-taken-requires-clause-view : goal.take-taken-requires-clause-view
take-taken-requires-clause-view g c = let i = c.seat.invariant in (i.known, i.is, (own_key i c.seat.view_is c.self.invariant c.self.view_is c.requires.of, no_hand i c.seat.view_is c.requires.free, i.rests.3))

pub invariant_of-seat : goal.invariant_of-seat
invariant_of-seat g c =
    let i = c.seat.invariant in
    subst (λ (h : Option ℕ). IsSeat g.G.Successors.legal c.take-taken.new.seat c.seat.inside.spares c.seat.inside.count h) (sym c.taken_hand-seat-inside.ensures)
    (take_seat i c.take-taken.new.seat c.take-taken.ensures.own.1 (no_hand i c.seat.view_is c.requires.free) c.take-taken.result (c.take-taken.ensures.told i.known i.is))

pub returns : goal.returns
returns g c =
    let i = c.seat.invariant in let new = c.take-taken.new.seat in
    tells i c.seat.view_is c.self.invariant c.self.view_is c.requires.of (λ (f : FrontierView g.row.G.Denot) (s : SeatView g.row.G.Denot). TakeTells f s (post_view new.table_id new.me.0) c.take-taken.result)
    (take_tells i.known c.seat.inside.raw.table_id i.key_is new.me.0 new.table_id c.take-taken.ensures.own.0 c.take-taken.result (c.take-taken.ensures.told i.known i.is))
