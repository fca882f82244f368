use Rattle.std.proofs.Common.{◌<◌, length, sym, subst, arith, rules}
use Rattle.git_table_tests.specs.declared.table.Caller.{Caller}
use Rattle.git_table_tests.specs.Spokes.{IsCaller}
use Rattle.git_table_tests.proofs.table.work_all.Goals as goal

pub for_each_mut-requires-clause-accepts : goal.for_each_mut-requires-clause-accepts
for_each_mut-requires-clause-accepts g c κs within = λ i p l e. (c.requires.star, subst (λ (m : Caller). IsCaller c.args.frontier.now m.seat m.busy) (sym e) (c.requires.callers i p.now l))

pub returns : goal.returns
returns g c = λ k d l.
    let same = c.for_each_mut.auto.s in
    let inside : k < length c.args.callers.now = omega arith in
    let t = c.for_each_mut.ensures k d inside in
    let u : IsCaller c.args.frontier.now t.1.after_call.now.seat t.1.after_call.now.busy = search rules in
    subst (λ (m : Caller). IsCaller c.args.frontier.now m.seat m.busy) t.1.left u
