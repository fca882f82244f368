use Rattle.std.proofs.Common.{subst}
use Rattle.git_answers.specs.Fan.{refuses, options}
use Rattle.git_fan.specs.Fans.{IsOpened, IsOpenFan}
use Rattle.git_fan.proofs.Opens.{listed_by}
use Rattle.git_fan.proofs.listing.list_together.Goals as goal

pub closed_together-requires-clause-small : goal.closed_together-requires-clause-small
closed_together-requires-clause-small g c κs lives =
    let v = c.args.input.now in
    let n = options c.args.table c.args.steps in
    let h : IsOpenFan v n (refuses n v) c.in-Open.graph c.in-Open.faces.items = subst (IsOpened v n (refuses n v)) c.in-Open.is c.in_ok-reply.ensures in
    h.small

pub returns-in-Decided : goal.returns-in-Decided
returns-in-Decided g c = (let v = c.args.input.now in let n = options c.args.table c.args.steps in subst (IsOpened v n (refuses n v)) c.in-Decided.is c.in_ok-reply.ensures)

pub returns-in-Open : goal.returns-in-Open
returns-in-Open g c =
    let v = c.args.input.now in
    let n = options c.args.table c.args.steps in
    let h : IsOpenFan v n (refuses n v) c.in-Open.graph c.in-Open.faces.items = subst (IsOpened v n (refuses n v)) c.in-Open.is c.in_ok-reply.ensures in
    listed_by v n (refuses n v) c.in-Open.graph c.in-Open.faces.items c.closed_together.result h (c.closed_together.ensures v c.args.steps h.graph h.verdicts)

pub closed_together-requires-clause-room : goal.closed_together-requires-clause-room
closed_together-requires-clause-room g c κs lives =
    let v = c.args.input.now in
    let n = options c.args.table c.args.steps in
    let h : IsOpenFan v n (refuses n v) c.in-Open.graph c.in-Open.faces.items = subst (IsOpened v n (refuses n v)) c.in-Open.is c.in_ok-reply.ensures in
    h.room
