use Rattle.std.proofs.Common.{ℕ, ◌<◌, subst, sym}
use Rattle.git_table.specs.Views.{IsSeat, SeatView}
use Rattle.git_table.proofs.SeatViews.{seat_is, kept_seat, given_seat}
use Rattle.git_table.proofs.frontier.Frontier.split.Goals as goal

pub split-other-requires-clause-view : goal.split-other-requires-clause-view
split-other-requires-clause-view g c = let i = c.seat.invariant in (i.known, i.is, (subst (λ (s : SeatView g.row.G.Denot). 1 < s.places) (sym (seat_is i c.seat.view_is)) c.requires.places, i.rests.0))

pub invariant_of-seat : goal.invariant_of-seat
invariant_of-seat g c =
    let k = c.split-other.ensures.kept in
    subst (λ (n : ℕ). IsSeat g.G.Successors.legal c.split-other.new.seat c.seat.inside.spares n c.seat.inside.hand) (sym c.behind.ensures) (kept_seat c.seat.invariant c.split-other.new.seat k.0.1 k.1)

pub invariant_of-other : goal.invariant_of-other
invariant_of-other g c = let k = c.split-other.ensures.given in given_seat c.seat.invariant c.split-other.result k.1 k.2 c.front.result c.front.ensures c.put-one.new.spares c.put-one.result c.put-one.ensures.few c.put-one.ensures.stack
