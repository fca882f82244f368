use Rattle.std.proofs.Common.{sym, ap, ◌∙◌, [], ◌++◌, arith, append-nil}
use Rattle.git_algebra.specs.Sums.{Sum}
use Rattle.git_algebra.specs.Polynomials.{entry}
use Rattle.git_poly.specs.Terms.{sum_of}
use Rattle.git_poly.proofs.TermLists.{sum_of-append}
use Rattle.git_poly.proofs.Merging.{entry_alone}
use Rattle.git_poly.proofs.terms.push_term.Goals as goal

pub returns-in_ok-push : goal.returns-in_ok-push
returns-in_ok-push c =
    ap sum_of c.in_ok-push.ensures.items
    ∙ sum_of-append c.args.out.now.items _
    ∙ ap (λ (s : Sum). sum_of c.args.out.now.items ++ s) (sym (entry_alone c.args.mono c.args.number (omega (arith, c.if-value-ne0.true, c.value.ensures.same))))

pub returns-else-value-ne0 : goal.returns-else-value-ne0
returns-else-value-ne0 c =
    sym (append-nil (sum_of c.args.out.now.items))
    ∙ ap (λ n. sum_of c.args.out.now.items ++ entry c.args.mono n []) (sym c.if-value-ne0.false ∙ c.value.ensures.same)
