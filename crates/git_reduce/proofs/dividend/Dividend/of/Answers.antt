use Rattle.std.proofs.Common.{arith}
use Rattle.git_reduce.proofs.TermMaps.{one_taken, taken_whole}
use Rattle.git_reduce.proofs.dividend.Dividend.of.Goals as goal

pub loop-i-preserved : goal.loop-i-preserved
loop-i-preserved c = record {
  numbers = c.in_ok-add_term.ensures.numbers;
  so_far = one_taken c.args.f.now.terms c.loop-i.i c.term_at-term.result c.loop-i.terms.entries c.add_term.new.terms.entries c.term_at-term.ensures c.in_ok-add_term.ensures.sum c.loop-i.invariant.so_far;
}

pub returns : goal.returns
returns c = taken_whole c.loop-i.terms.entries c.loop-i.i c.args.f.now (omega (arith, c.term_count-i-end.ensures, c.loop-i-test.false)) c.loop-i.invariant.so_far
