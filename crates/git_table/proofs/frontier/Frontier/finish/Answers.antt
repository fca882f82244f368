use Rattle.std.proofs.Common.{refl}
use Rattle.std.proofs.lemmas.Option.{none-some}
use Rattle.git_table.proofs.SeatViews.{own_key, finish_asks, again}
use Rattle.git_table.proofs.frontier.Frontier.finish.Goals as goal

pub finish-requires-clause-view : goal.finish-requires-clause-view
finish-requires-clause-view g c =
    let i = c.seat.invariant in let h = c.requires.hand in
    let a = finish_asks i c.seat.view_is c.self.invariant c.self.view_is c.requires.of g.G.Successors.next c.in-Some.id c.in-Some.is h.0 h.1 h.2 h.3 h.4 in
    (i.known, i.is, (own_key i c.seat.view_is c.self.invariant c.self.view_is c.requires.of, i.rests, a.0, a.1))

pub invariant_of-seat : goal.invariant_of-seat
invariant_of-seat g c = let i = c.seat.invariant in again i c.finish.new.seat c.finish.ensures.own.1 _ _ (c.finish.ensures.told i.known i.is) i.rests.1 i.rests.2 refl _ refl (λ id e. absurd (none-some id e))
