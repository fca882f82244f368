use Rattle.std.proofs.Common.{◌≤◌, [], ◌∷◌, ap, sym, ◌∙◌, subst, arith}
use Rattle.std.specs.List.{AllByRecursion}
use Rattle.git_algebra.specs.Order.{rank}
use Rattle.git_algebra.specs.Sums.{Sum}
use Rattle.git_strictpoly.proofs.Loop.{term_terms, first_goes_on}
use Rattle.git_strictpoly.proofs.reading.terms.Goals as goal

pub add_terms-requires-clause-below : goal.add_terms-requires-clause-below
add_terms-requires-clause-below c =
    subst (λ (x : Sum). AllByRecursion (λ t. rank c.in_ok-first.first.mono ≤ rank t.0) x) (sym (term_terms c.in_ok-sum.sum c.in_ok-first.first.mono c.signed.result c.signed.ensures.some c.signed.ensures.small c.in_ok-sum.ensures)) (omega arith, tt)

pub returns : goal.returns
returns c =
    let terms = term_terms c.in_ok-sum.sum c.in_ok-first.first.mono c.signed.result c.signed.ensures.some c.signed.ensures.small c.in_ok-sum.ensures in
    first_goes_on c.args.r c.args.negative c.args.front.now c.in_ok-first.first.mono c.in_ok-first.first.size c.term.new.self c.in_ok-sum.sum.terms _ c.in_ok-first.ensures.reads (terms ∙ ap (λ n. (c.in_ok-first.first.mono, n) ∷ []) c.signed.ensures.same) c.add_terms.ensures
