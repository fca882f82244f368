use Rattle.std.proofs.Common.{ap, ◌∙◌, ◌∷◌, ◌++◌}
use Rattle.git_table.specs.Views.{SeatView}
use Rattle.git_table.specs.Calls.{live_word, state_word}
use Rattle.git_crew.proofs.Keeping.{works_on, kept_taken}
use Rattle.git_crew.proofs.member.scan.Goals as goal

pub returns-in-NotYet : goal.returns-in-NotYet
returns-in-NotYet g c =
    let m = c.requires.member in
    let s : SeatView g.row.G.Denot = c.args.member.now.seat in
    let o = c.in-NotYet.ensures in
    let w = works_on g.G.Successors.next g.G.Successors.payload c.args.frontier.now s c.take.new.seat ((live_word c.args.frontier.now, o.1) ∷ (o.2 ++ s.looks)) c.args.member.now.found.items c.args.member.now.end o.5 m.of m.says c.requires.working in
    record { of = w.0; fits = m.fits; says = w.1 }

pub work_on-requires-clause-taken : goal.work_on-requires-clause-taken
work_on-requires-clause-taken g c =
    let m = c.requires.member in
    let s : SeatView g.row.G.Denot = c.args.member.now.seat in
    let o = c.in-Work.ensures.1 in
    let k = kept_taken g.G.Successors.next g.G.Successors.payload c.args.frontier.now s c.take.new.seat c.in-Work.id ((state_word c.args.frontier.now c.in-Work.id, 1) ∷ (o.1 ++ s.looks)) c.args.member.now.found.items c.args.member.now.end o.3 m.says c.requires.working in
    record {
      of = ap (λ (u : SeatView g.row.G.Denot). u.frontier) o.3 ∙ m.of;
      fits = m.fits;
      hand = ap (λ (u : SeatView g.row.G.Denot). u.hand) o.3;
      places = k.1;
      kept = k.0;
      working = c.requires.working;
    }
