use Rattle.std.proofs.Common.{ℕ, ◌∷◌, ap, sym, ◌∙◌, Some}
use Rattle.git_table.specs.Views.{SeatView}
use Rattle.git_table.specs.Calls.{state_word}
use Rattle.git_crew.proofs.Keeping.{works_on, kept_taken}
use Rattle.git_crew.proofs.member.hinted.Goals as goal

pub loop-look-preserved : goal.loop-look-preserved
loop-look-preserved g c =
    let m = c.loop-look.invariant.member in
    let s : SeatView g.row.G.Denot = c.loop-look.member.seat in
    let o = c.in-Gone.ensures in
    let w = works_on g.G.Successors.next g.G.Successors.payload c.args.frontier.now s c.take_hint.new.seat ((state_word c.args.frontier.now c.in-Some.id, o.0) ∷ s.looks) c.loop-look.member.found.items c.loop-look.member.end o.2 m.of m.says c.loop-look.invariant.working in
    record { member = record { of = w.0; fits = c.next.ensures.kept.0 ∙ m.fits; says = w.1 }; working = c.loop-look.invariant.working }

pub returns-in-Work-clause-taken : goal.returns-in-Work-clause-taken
returns-in-Work-clause-taken g c =
    let m = c.loop-look.invariant.member in
    let s : SeatView g.row.G.Denot = c.loop-look.member.seat in
    let o = c.in-Work.ensures in
    let k = kept_taken g.G.Successors.next g.G.Successors.payload c.args.frontier.now s c.take_hint.new.seat c.in-Some.id ((state_word c.args.frontier.now c.in-Some.id, 1) ∷ s.looks) c.loop-look.member.found.items c.loop-look.member.end o.1 m.says c.loop-look.invariant.working in
    record {
      of = ap (λ (u : SeatView g.row.G.Denot). u.frontier) o.1 ∙ m.of;
      fits = c.next.ensures.kept.0 ∙ m.fits;
      hand = ap (λ (u : SeatView g.row.G.Denot). u.hand) o.1 ∙ ap (λ (n : ℕ). Some n) (sym o.0);
      places = k.1;
      kept = k.0;
      working = c.loop-look.invariant.working;
    }
