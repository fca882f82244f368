use Rattle.std.proofs.Common.{arith, ◌+◌, ◌-◌, ◌≡◌, ◌≤◌, length, subst, Some}
use Rattle.std.specs.Prelude.{slice_get}
use Rattle.git_algebra.specs.Order.{rank}
use Rattle.git_poly.specs.declared.term.Term.{Term}
use Rattle.git_poly.proofs.Pieces.{above_before, not_above_at, not_above_past}
use Rattle.git_poly.proofs.terms.bounds_by_doubling.Goals as goal
use Rattle.git_poly.proofs.terms.bounds_by_doubling.Goals.{then-loop-step-test+else-is_above, else-loop-step-test}

pub loop-step-preserved : goal.loop-step-preserved
loop-step-preserved c =
    let x = c.index-a-low.result in
    let now = c.loop-step.invariant in record {
      later = omega arith;
      within = omega arith;
      some = omega arith;
      above = λ k t from less here. above_before c.args.a.now _ x c.args.m.now c.requires.proper c.index-a-low.is (omega arith) (c.is_above.ensures.0 c.if-is_above.true) k t (omega arith) here;
    }

pub returns : goal.returns
returns c =
    let now = c.loop-step.invariant in
    let a = c.args.a.now in
    let m = c.args.m.now in
    let low = c.loop-step.low in
    elim c.loop-step-test.branch [
      | then-loop-step-test+else-is_above w ↦
          let high : low + c.loop-step.step - 1 ≡ low + c.min.result = omega (arith, c.min.ensures, w.loop-step-test.true) in record {
            later = now.later;
            order = omega arith;
            within = omega (arith, high, w.loop-step-test.true);
            above = now.above;
            not_above = subst (λ n. (t : Term) → slice_get a n ≡ Some t → rank t.mono ≤ rank m) high (not_above_at a _ w.index-a-low.result m w.index-a-low.is (λ above. cc (w.is_above.ensures.1 above, w.if-is_above.false)));
          }
      | else-loop-step-test w ↦
          let high : low + c.min.result ≡ length a = omega (arith, c.min.ensures, w.loop-step-test.false) in record {
            later = now.later;
            order = omega arith;
            within = omega (arith, high);
            above = now.above;
            not_above = not_above_past a _ m (omega (arith, high));
          }
    ]
