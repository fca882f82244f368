use Rattle.std.proofs.Common.{◌≡◌, ◌+◌, List, [], ◌∷◌, ◌++◌, length, length-append, ap, ◌∙◌, arith, rules, Some, false}
use Rattle.std.specs.List.{All}
use Rattle.std.proofs.lemmas.List.Elements.{All-pop}
use Rattle.git_table_tests.specs.declared.table.Star.{Star}
use Rattle.git_table_tests.specs.declared.table.Caller.{Caller}
use Rattle.git_table.specs.Views.{FrontierView, SeatView}
use Rattle.git_table_tests.specs.Spokes.{IsCaller}
use Rattle.git_table_tests.proofs.table.joined.Goals as goal

-- the last caller, and the others
last : (f : FrontierView Star) (xs ys : List Caller) (m : Caller) → xs ≡ ys ++ m ∷ [] → All (λ (m : Caller). IsCaller f m.seat m.busy) xs → All (λ (m : Caller). IsCaller f m.seat m.busy) ys × IsCaller f m.seat m.busy × (length ys + 1 ≡ length xs)
last f xs ys m is h =
    let t = All-pop (λ (m : Caller). IsCaller f m.seat m.busy) xs ys (Some m) is h in
    let l = ap (λ (u : List Caller). length u) is in (t.0, t.1, omega (arith, length-append ys (m ∷ [])))

pub loop-other-init : goal.loop-other-init
loop-other-init c =
    let p = last c.args.frontier c.args.callers.items c.pop.new.self.items c.in-Some.field-0 c.in-Some.ensures.items c.requires.callers in
    let no : c.in-Some.field-0.busy ≡ false = search rules in record {
      of = p.1.of;
      free = p.1.free no;
      places = let o = p.1.place in let l = p.2 in omega arith;
      rest = p.0;
    }

pub join-seat-requires-clause-of : goal.join-seat-requires-clause-of
join-seat-requires-clause-of c = (c.loop-other.invariant.of, (last c.args.frontier c.loop-other.callers.items c.pop-in-loop-other.new.self.items c.in-Some-pop.field-0 c.in-Some-pop.ensures.items c.loop-other.invariant.rest).1.of)

pub join-seat-requires-clause-free : goal.join-seat-requires-clause-free
join-seat-requires-clause-free c =
    let no : c.in-Some-pop.field-0.busy ≡ false = search rules in
    (c.loop-other.invariant.free, (last c.args.frontier c.loop-other.callers.items c.pop-in-loop-other.new.self.items c.in-Some-pop.field-0 c.in-Some-pop.ensures.items c.loop-other.invariant.rest).1.free no)

pub loop-other-preserved : goal.loop-other-preserved
loop-other-preserved c =
    let i = c.loop-other.invariant in
    let p = last c.args.frontier c.loop-other.callers.items c.pop-in-loop-other.new.self.items c.in-Some-pop.field-0 c.in-Some-pop.ensures.items i.rest in
    let e = c.join-seat.ensures in record {
      of = ap (λ (u : SeatView Star). u.frontier) e ∙ i.of;
      free = ap (λ (u : SeatView Star). u.hand) e ∙ i.free;
      places = let q = ap (λ (u : SeatView Star). u.places) e in let o = p.1.place in let l = p.2 in let m = i.places in omega arith;
      rest = p.0;
    }
