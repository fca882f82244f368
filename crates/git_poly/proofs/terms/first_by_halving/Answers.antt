use Rattle.std.proofs.Common.{arith}
use Rattle.git_poly.proofs.Pieces.{above_before, not_above_at}
use Rattle.git_poly.proofs.terms.first_by_halving.Goals as goal

pub loop-first-preserved-then-is_above : goal.loop-first-preserved-then-is_above
loop-first-preserved-then-is_above c =
    let now = c.loop-first.invariant in record {
      later = omega arith;
      order = omega arith;
      within = now.within;
      above = λ k t from less here. above_before c.args.a.now _ c.index-a-middle.result c.args.m.now c.requires.proper c.index-a-middle.is (omega arith) (c.is_above.ensures.0 c.if-is_above.true) k t (omega arith) here;
      not_above = now.not_above;
    }

pub loop-first-preserved : goal.loop-first-preserved
loop-first-preserved c =
    let now = c.loop-first.invariant in record {
      later = now.later;
      order = omega arith;
      within = omega arith;
      above = now.above;
      not_above = not_above_at c.args.a.now _ c.index-a-middle.result c.args.m.now c.index-a-middle.is (λ above. cc (c.is_above.ensures.1 above, c.if-is_above.false));
    }
