use Rattle.std.proofs.Common.{◌≡◌, ◌/◌, List, length, sym, ◌∙◌, subst}
use Rattle.std.proofs.lemmas.Bool.{eqb-true}
use Rattle.std.proofs.lemmas.List.{take_rest}
use Rattle.std.proofs.lemmas.Result.{IfOk-weaker}
use Rattle.git_algebra.specs.Polynomials.{normal}
use Rattle.git_polytext.specs.declared.terms.Term.{Term}
use Rattle.git_polytext.specs.Views.{sum_of}
use Rattle.git_polytext.proofs.Halves.{none_summed, one_summed, both_summed}
use Rattle.git_polytext.proofs.terms.+sum_of_terms.Goals as goal

pub returns-then-is_empty : goal.returns-then-is_empty
returns-then-is_empty t c = none_summed c.args.terms.now c.zero.result (eqb-true _ _ (sym c.is_empty.ensures ∙ c.if-is_empty.true)) c.zero.ensures

pub returns-then-terms-eq1 : goal.returns-then-terms-eq1
returns-then-terms-eq1 t c = IfOk-weaker c.term.result _ _ (λ p h. one_summed c.args.terms.now p c.index-terms-0.result c.if-terms-eq1.true c.index-terms-0.is h) c.term.ensures

pub returns : goal.returns
returns t c =
    let back = subst (λ (ts : List Term). c.in_ok-back.back ≡ normal (sum_of ts)) (take_rest c.args.terms.now (length c.args.terms.now / 2)) c.in_ok-back.ensures in
    IfOk-weaker c.add.result _ _
    (λ p h. both_summed c.args.terms.now (length c.args.terms.now / 2) c.in_ok-front.front c.in_ok-back.back p c.in_ok-front.ensures back h)
    c.add.ensures
