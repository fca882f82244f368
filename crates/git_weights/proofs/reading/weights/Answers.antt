use Rattle.std.proofs.lemmas.Result.{err_from_is_err_and}
use Rattle.git_lines.proofs.Loops.{stops_at, goes_on, is_done}
use Rattle.git_weights.proofs.reading.weights.Goals as goal

pub returns-in_err-next : goal.returns-in_err-next
returns-in_err-next c =
    let p = err_from_is_err_and c.from_residual-in_err-next.result c.from_residual-in_err-next.ensures.1 in
    rw (p.1, p.2) (stops_at _ c.loop.out.items c.args.count c.loop.counter _ _ _ c.loop-test.true c.in_err-next.ensures c.loop.invariant)

pub loop-preserved : goal.loop-preserved
loop-preserved c =
    rw c.in_ok-push.ensures.items (goes_on _ c.loop.out.items c.args.count c.loop.counter _ c.in_ok-next.next _ _ c.loop-test.true c.in_ok-next.ensures c.loop.invariant)

pub returns : goal.returns
returns c = is_done _ c.loop.out.items c.args.count c.loop.counter _ _ c.loop-test.false c.loop.invariant
