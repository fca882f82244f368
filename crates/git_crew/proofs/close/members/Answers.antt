use Rattle.std.proofs.Common.{◌≡◌, ℕ, ◌+◌, ◌-◌, ◌≤◌, [], ◌∷◌, ◌++◌, List, length, length-append, ap, sym, ◌∙◌, subst, arith}
use Rattle.std.specs.List.{All}
use Rattle.std.proofs.lemmas.List.Elements.{All-push}
use Rattle.git_table.specs.Views.{SeatView}
use Rattle.git_table.specs.Calls.{room}
use Rattle.git_share.specs.Views.{IsNew}
use Rattle.git_crew.specs.declared.member.Member.{Member}
use Rattle.git_crew.specs.declared.member.End.TheVariants.{Working}
use Rattle.git_crew.specs.Members.{IsMember}
use Rattle.git_crew.proofs.Counting.{popped}
use Rattle.git_crew.proofs.Keeping.{at_start}
use Rattle.git_crew.proofs.close.members.Goals as goal

pub loop-k-preserved : goal.loop-k-preserved
loop-k-preserved g c =
    let next = g.G.Successors.next in
    let payload = g.G.Successors.payload in
    let h = c.loop-k.invariant in
    let e = c.split-rest.ensures in
    let p = popped (IsNew (c.args.cap + c.args.workers)) c.loop-k.hints.items c.pop.new.self.items c.pop.result c.in-Some.own c.pop.ensures.items c.in-Some.is h.rooms in
    let same : c.args.cap + c.args.workers ≡ room c.args.frontier.now = (λ i. sym c.requires.cap.0 i + sym c.requires.workers.0 i) in
    let m : Member g.row.G.Denot g.row.G-Payload.Denot = record { seat = c.split-rest.result.1; found = c.new-in-loop-k.result; hints = c.in-Some.own; end = Working } in
    let one : IsMember next payload c.args.frontier.now 1 m = record {
      of = ap (λ (u : SeatView g.row.G.Denot). u.frontier) e.1 ∙ h.of;
      fits = p.1.room_is ∙ same;
      says = at_start next payload c.args.frontier.now m.seat m.found.items c.new-in-loop-k.ensures.items (ap (λ (u : SeatView g.row.G.Denot). u.places) e.1) (ap (λ (u : SeatView g.row.G.Denot). u.hand) e.1 ∙ h.free) (ap (λ (u : SeatView g.row.G.Denot). u.finished) e.1);
    } in
    let more : c.push.new.self.items ≡ c.loop-k.all.items ++ m ∷ [] = c.in_ok-push.ensures.items in
    let longer = ap (λ (l : List (Member g.row.G.Denot g.row.G-Payload.Denot)). length l) more in
    let places = ap (λ (u : SeatView g.row.G.Denot). u.places) e.0 in
    let a = h.places in let b = h.long in let d = h.hinted in let l = p.2 in let t = c.loop-k-test.true in record {
      of = ap (λ (u : SeatView g.row.G.Denot). u.frontier) e.0 ∙ h.of;
      places = omega arith;
      free = ap (λ (u : SeatView g.row.G.Denot). u.hand) e.0 ∙ h.free;
      bare = ap (λ (u : SeatView g.row.G.Denot). u.finished) e.0 ∙ h.bare;
      long = omega (arith, length-append c.loop-k.all.items (m ∷ []));
      hinted = omega arith;
      rooms = p.0;
      ready = subst (All (IsMember next payload c.args.frontier.now 1)) (sym more) (All-push (IsMember next payload c.args.frontier.now 1) c.loop-k.all.items m h.ready one);
    }

pub returns-clause-members : goal.returns-clause-members
returns-clause-members g c =
    let next = g.G.Successors.next in
    let payload = g.G.Successors.payload in
    let h = c.loop-k.invariant in
    let p = popped (IsNew (c.args.cap + c.args.workers)) c.loop-k.hints.items c.pop-2.new.self.items c.pop-2.result c.in-Some-pop.own c.pop-2.ensures.items c.in-Some-pop.is h.rooms in
    let same : c.args.cap + c.args.workers ≡ room c.args.frontier.now = (λ i. sym c.requires.cap.0 i + sym c.requires.workers.0 i) in
    let m : Member g.row.G.Denot g.row.G-Payload.Denot = record { seat = c.loop-k.seat; found = c.new-2.result; hints = c.in-Some-pop.own; end = Working } in
    let a = h.places in let t = c.loop-k-test.false in let some = c.requires.workers.1 in
    let last : c.loop-k._k ≤ c.args.workers = c.loop-k.auto._k-end (omega arith) in
    let one : IsMember next payload c.args.frontier.now 1 m = record {
      of = h.of;
      fits = p.1.room_is ∙ same;
      says = at_start next payload c.args.frontier.now m.seat m.found.items c.new-2.ensures.items (omega arith) h.free h.bare;
    } in
    let more : c.push-2.new.self.items ≡ c.loop-k.all.items ++ m ∷ [] = c.in_ok-push-2.ensures.items in
    subst (All (IsMember next payload c.args.frontier.now 1)) (sym more) (All-push (IsMember next payload c.args.frontier.now 1) c.loop-k.all.items m h.ready one)
