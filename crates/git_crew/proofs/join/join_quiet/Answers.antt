use Rattle.std.proofs.Common.{◌≡◌, ◌+◌, ◌++◌, sym, subst, rules, List}
use Rattle.git_machine.specs.declared.successors.Found.{Found}
use Rattle.git_crew.specs.Members.{EndSays}
use Rattle.git_crew.specs.declared.member.End.TheVariants.{Quiet}
use Rattle.git_crew.proofs.Keeping.{quiet_joined}
use Rattle.git_crew.proofs.join.join_quiet.Goals as goal

pub returns : goal.returns
returns g c = λ n is.
    let next = g.G.Successors.next in
    let payload = g.G.Successors.payload in
    let e : c.append.new.self.items ≡ c.args.one.found.items ++ c.args.other.found.items = search rules in
    let t = quiet_joined next payload c.args.frontier.now n c.args.one.seat c.args.other.seat c.join-seat.result c.args.one.found.items c.args.other.found.items c.args.one.end c.args.other.end c.requires.quiet.0 c.requires.quiet.1 is.of is.says c.requires.other.says c.join-seat.ensures in
    record { of = t.0; fits = is.fits; says = subst (λ (l : List (Found g.row.G-Payload.Denot)). EndSays next payload c.args.frontier.now (n + 1) c.join-seat.result l Quiet) (sym e) t.1 }
