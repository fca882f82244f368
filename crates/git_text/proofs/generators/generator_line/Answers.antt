use Rattle.std.proofs.Common.{◌∙◌, ℕ, subst}
use Rattle.git_polytext.specs.Grammar.{IsPolynomialLine}
use Rattle.git_polytext.proofs.Graded.{lines_graded}
use Rattle.git_text.proofs.OneDegree.{apart_is}
use Rattle.git_text.proofs.GeneratorLines.{generator_is, generator_mixed}
use Rattle.git_text.proofs.generators.generator_line.Goals as goal

pub mixed-requires : goal.mixed-requires
mixed-requires c =
    lines_graded c.args.grading.now.columns c.args.line.now.text.now c.in_ok-p.p
    (subst (λ (n : ℕ). IsPolynomialLine n c.args.line.now.text.now c.in_ok-p.p) c.r.ensures.value c.in_ok-p.ensures.found)

pub returns-in-None : goal.returns-in-None
returns-in-None c =
    let none = apart_is c.args.grading.now c.in_ok-p.p c.mixed.result c.mixed.ensures.none c.mixed.ensures.some ∙ c.in-None.is in
    generator_is c.args.grading.now c.r.result c.args.before c.args.line.now.number c.args.line.now.text.now c.in_ok-p.p c.r.ensures.value c.in_ok-p.ensures.exact none

pub returns-in-Some : goal.returns-in-Some
returns-in-Some c =
    let some = apart_is c.args.grading.now c.in_ok-p.p c.mixed.result c.mixed.ensures.none c.mixed.ensures.some ∙ c.in-Some.is in
    rw c.saturating_sub.ensures
    (generator_mixed c.args.grading.now c.r.result c.args.before c.args.line.now.number c.args.line.now.text.now c.in_ok-p.p c.in-Some.pair c.r.ensures.value c.in_ok-p.ensures.exact some)
