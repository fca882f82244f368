use Rattle.std.proofs.Common.{arith}
use Rattle.git_crew.proofs.Wholes.{found_reach, found_few}
use Rattle.git_crew.proofs.close.listed.Goals as goal

pub returns-clause-reach : goal.returns-clause-reach
returns-clause-reach g c =
    let l = c.count.ensures in
    found_reach g.G.Successors.next g.G.Successors.payload c.args.frontier c.args.seat c.args.found.items c.requires.ready.kept l.0 l.1 l.3 c.requires.ready.places c.requires.quiet

pub returns-clause-few : goal.returns-clause-few
returns-clause-few g c =
    let l = c.count.ensures in
    let n = l.2 in
    let t = c.if-count-cap.false in
    found_few g.G.Successors.next g.G.Successors.payload c.args.frontier c.args.seat c.args.found.items c.requires.ready.kept l.0 l.1 l.3 c.requires.ready.places c.requires.quiet c.args.cap (omega arith)
