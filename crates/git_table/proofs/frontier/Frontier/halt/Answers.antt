use Rattle.git_table.proofs.SeatViews.{own_key, again}
use Rattle.git_table.proofs.frontier.Frontier.halt.Goals as goal

pub halt-requires-clause-view : goal.halt-requires-clause-view
halt-requires-clause-view g c = let i = c.seat.invariant in (i.known, i.is, own_key i c.seat.view_is c.self.invariant c.self.view_is c.requires.of)

pub invariant_of-seat : goal.invariant_of-seat
invariant_of-seat g c = let i = c.seat.invariant in again i c.halt.new.seat c.halt.ensures.own.1 _ _ (c.halt.ensures.told i.known i.is) i.rests.1 i.rests.2 i.rests.3 c.seat.inside.hand i.hand_is i.hand_low
