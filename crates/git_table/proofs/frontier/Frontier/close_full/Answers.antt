use Rattle.std.proofs.Common.{ap, ◌∙◌, subst}
use Rattle.git_machine.specs.Reach.{ReachExceeds}
use Rattle.git_table.specs.Views.{FrontierView, SeatView}
use Rattle.git_table.proofs.SeatViews.{own_key, seat_is, front_is}
use Rattle.git_table.proofs.Endings.{exceeds_is}
use Rattle.git_table.proofs.frontier.Frontier.close_full.Goals as goal

pub end_full-requires-clause-view : goal.end_full-requires-clause-view
end_full-requires-clause-view g c =
    let i = c.seat.invariant in (i.known, i.is, (own_key i c.seat.view_is c.self.invariant c.self.view_is c.requires.of, ap (λ (t : SeatView g.row.G.Denot). t.full) (seat_is i c.seat.view_is) ∙ c.requires.full))

pub returns : goal.returns
returns g c =
    let i = c.seat.invariant in
    subst (λ (f : FrontierView g.row.G.Denot). ReachExceeds (g.G.Successors.next f.graph) f.first f.cap) (front_is i c.seat.view_is c.self.invariant c.self.view_is c.requires.of) (exceeds_is g.G.Successors.next i.known (c.end_full.ensures i.known i.is))
