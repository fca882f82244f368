use Rattle.std.proofs.Common.{◌∙◌, sym}
use Rattle.git_table.proofs.SeatViews.{own_key, no_hand, both, both_is, both_few, both_seat, both_shows}
use Rattle.git_table.proofs.frontier.Frontier.join.Goals as goal

pub join-requires-clause-view : goal.join-requires-clause-view
join-requires-clause-view g c =
    let i = c.seat.invariant in let j = c.other.invariant in
    ((i.known, i.is, (i.rests.0, (no_hand i c.seat.view_is c.requires.free.0, i.rests.3))), (j.known, j.is, (j.rests.0, (no_hand j c.other.view_is c.requires.free.1, j.rests.3))))

pub bound-requires-clause-view : goal.bound-requires-clause-view
bound-requires-clause-view g c = (both c.seat.invariant c.other.invariant, both_is c.seat.invariant c.other.invariant c.join.new.seat.me.0 c.join.ensures.1, tt)

pub pile-requires : goal.pile-requires
pile-requires g c =
    let i = c.seat.invariant in let j = c.other.invariant in let b = c.bound.ensures.told (both i j) (both_is i j c.join.new.seat.me.0 c.join.ensures.1) in both_few i j b.2 b.1

pub invariant_of-result : goal.invariant_of-result
invariant_of-result g c =
    let i = c.seat.invariant in let j = c.other.invariant in let b = c.bound.ensures.told (both i j) (both_is i j c.join.new.seat.me.0 c.join.ensures.1) in
    let key = own_key j c.other.view_is c.self.invariant c.self.view_is c.requires.of.1 ∙ sym (own_key i c.seat.view_is c.self.invariant c.self.view_is c.requires.of.0) in
    both_seat i j key (no_hand i c.seat.view_is c.requires.free.0) c.bound.new.seat (c.bound.ensures.own.1 ∙ c.join.ensures.0.1) b.0 c.pile.new.spares (both_few i j b.2 b.1) c.pile.ensures

pub returns : goal.returns
returns g c =
    let i = c.seat.invariant in let j = c.other.invariant in let b = c.bound.ensures.told (both i j) (both_is i j c.join.new.seat.me.0 c.join.ensures.1) in
    both_shows i j c.seat.view_is c.other.view_is (no_hand i c.seat.view_is c.requires.free.0) c.bound.new.seat (c.bound.ensures.own.0 ∙ c.join.ensures.0.0) b.0
