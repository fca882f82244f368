use Rattle.std.proofs.Common.{◌∙◌}
use Rattle.std.proofs.lemmas.Result.{err_from_is_err_and}
use Rattle.git_lines.proofs.Loops.{goes_on, is_done}
use Rattle.git_strictlines.proofs.Loops.{fails_at}
use Rattle.git_certtext.proofs.polynomials.polynomials.Goals as goal

pub returns-in_err-next-clause-reads : goal.returns-in_err-next-clause-reads
returns-in_err-next-clause-reads c =
    let p = err_from_is_err_and c.from_residual.result c.from_residual.ensures.1 in
    rw (p.1, p.2) (fails_at _ c.loop-i.made.items c.args.count c.loop-i._i _ _ _ c.loop-i-test.true c.in_err-next.ensures.reads c.loop-i.invariant.read)

pub loop-i-preserved : goal.loop-i-preserved
loop-i-preserved c = record {
  read = rw c.in_ok-push.ensures.items (goes_on _ c.loop-i.made.items c.args.count c.loop-i._i _ c.in_ok-next.next _ _ c.loop-i-test.true c.in_ok-next.ensures.reads c.loop-i.invariant.read);
  bytes = c.in_ok-next.ensures.bytes ∙ c.loop-i.invariant.bytes;
}

pub returns-clause-reads : goal.returns-clause-reads
returns-clause-reads c = is_done _ c.loop-i.made.items c.args.count c.loop-i._i _ _ c.loop-i-test.false c.loop-i.invariant.read
