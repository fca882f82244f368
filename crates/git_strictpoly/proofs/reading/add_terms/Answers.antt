use Rattle.std.proofs.Common.{◌≡◌, ◌≤◌, ◌-◌, ◌++◌, ◌∷◌, [], ap, sym, ◌∙◌, subst, arith}
use Rattle.std.specs.List.{AllByRecursion}
use Rattle.std.proofs.lemmas.Result.{err_from_is_err_and}
use Rattle.git_algebra.specs.Order.{rank}
use Rattle.git_algebra.specs.Sums.{Sum}
use Rattle.git_strictpoly.specs.Strict.{terms_after}
use Rattle.git_strictpoly.specs.Giving.{after}
use Rattle.git_strictpoly.proofs.Loop.{loop_spent, loop_stops, loop_goes_on, loop_done, plus_terms, all_with}
use Rattle.git_strictpoly.proofs.reading.add_terms.Goals as goal

pub returns-then-left-eq0 : goal.returns-then-left-eq0
returns-then-left-eq0 c = loop_spent c.loop-before.left c.args.r c.loop-before.before c.loop-before.front c.loop-before.sum.terms _ (omega (arith, c.loop-before-test.true, c.len.ensures)) (omega (arith, c.if-left-eq0.true)) c.loop-before.invariant.reads

pub returns-in_err-term : goal.returns-in_err-term
returns-in_err-term c =
    let p = err_from_is_err_and c.from_residual.result c.from_residual.ensures.1 in
    rw (p.1, p.2) (loop_stops c.loop-before.left c.args.r c.loop-before.before c.loop-before.front c.loop-before.sum.terms _ _ (omega (arith, c.loop-before-test.true, c.len.ensures)) (omega (arith, c.if-left-eq0.false)) c.in_err-term.ensures.reads c.loop-before.invariant.reads)

pub loop-before-preserved : goal.loop-before-preserved
loop-before-preserved c =
    let t = c.in_ok-term.term in
    let e = c.in_ok-term.ensures in
    let terms : c.append.new.self.terms ≡ c.loop-before.sum.terms ++ (t.mono, t.number) ∷ [] = plus_terms c.loop-before.sum c.append.new.self t.mono c.loop-before.before t.number e.some e.small e.below c.loop-before.invariant.below c.in_ok-append.ensures.sum in
    let goes = loop_goes_on c.loop-before.left c.args.r c.loop-before.before c.loop-before.front c.loop-before.sum.terms _ (t.mono, t.number) c.later_term.new.self (omega (arith, c.loop-before-test.true, c.len.ensures)) (omega (arith, c.if-left-eq0.false)) e.reads c.loop-before.invariant.reads in
    record {
      reads = ap (λ (x : Sum). after x (terms_after (c.loop-before.left - 1) c.args.r t.mono c.later_term.new.self)) terms ∙ goes;
      below = subst (λ (x : Sum). AllByRecursion (λ t. rank c.in_ok-term.term.mono ≤ rank t.0) x) (sym terms) (all_with t.mono c.loop-before.before t.number c.loop-before.sum.terms e.below c.loop-before.invariant.below);
    }

pub returns : goal.returns
returns c = loop_done c.loop-before.left c.args.r c.loop-before.before c.loop-before.front c.loop-before.sum.terms _ (omega (arith, c.loop-before-test.false, c.len.ensures)) c.loop-before.invariant.reads
