use Rattle.std.proofs.Common.{List, refl, rules, subst, sym, ◌∙◌}
use Rattle.std.proofs.lemmas.Bool.{eqb-false}
use Rattle.git_defs.specs.Vectors.{Vector}
use Rattle.git_minors.specs.Minors.{HasPositiveDependence}
use Rattle.git_grading.proofs.Judged.{graded, no_rank, not_pointed}
use Rattle.git_grading.specs.Tables.{AreBases}
use Rattle.git_grading.proofs.grading.Grading.of.Goals as goal

pub invariant_of-result : goal.invariant_of-result
invariant_of-result c =
    let k = c.args.k in let columns = c.args.columns.items in let bases = c.in_ok-bases.bases.items in
    let are : AreBases k columns bases = subst (λ (vs : List Vector). AreBases k vs bases) c.deref-2.ensures.value c.in_ok-bases.ensures in (
      graded k columns c.requires bases are (λ z. eqb-false c.in_ok-bases.bases.len 0 (sym c.if-is_empty.ensures) (c.in_ok-bases.bases.ok.0 ∙ z))
          (λ h. (let f = c.if-has_positive_dependence.ensures.1 (subst (HasPositiveDependence k) (sym c.deref-4.ensures.value) h) in cc f)),
      are,
    )

pub returns-clause-grading : goal.returns-clause-grading
returns-clause-grading c =
    let k = c.args.k in let columns = c.args.columns.items in let bases = c.in_ok-bases.bases.items in
    let are : AreBases k columns bases = subst (λ (vs : List Vector). AreBases k vs bases) c.deref-2.ensures.value c.in_ok-bases.ensures in
    graded k columns c.requires bases are (λ z. eqb-false c.in_ok-bases.bases.len 0 (sym c.if-is_empty.ensures) (c.in_ok-bases.bases.ok.0 ∙ z))
    (λ h. (let f = c.if-has_positive_dependence.ensures.1 (subst (HasPositiveDependence k) (sym c.deref-4.ensures.value) h) in cc f))

pub returns-then-has_positive_dependence-clause-pointed : goal.returns-then-has_positive_dependence-clause-pointed
returns-then-has_positive_dependence-clause-pointed c e =
    let k = c.args.k in let columns = c.args.columns.items in let bases = c.in_ok-bases.bases.items in
    let are : AreBases k columns bases = subst (λ (vs : List Vector). AreBases k vs bases) c.deref-2.ensures.value c.in_ok-bases.ensures in
    not_pointed k columns c.requires bases are (λ z. eqb-false c.in_ok-bases.bases.len 0 (sym c.if-is_empty.ensures) (c.in_ok-bases.bases.ok.0 ∙ z))
    (subst (HasPositiveDependence k) c.deref-4.ensures.value (c.if-has_positive_dependence.ensures.0 refl))

pub returns-then-is_empty-clause-rank : goal.returns-then-is_empty-clause-rank
returns-then-is_empty-clause-rank c e =
    let k = c.args.k in let columns = c.args.columns.items in let bases = c.in_ok-bases.bases.items in
    let are : AreBases k columns bases = subst (λ (vs : List Vector). AreBases k vs bases) c.deref-2.ensures.value c.in_ok-bases.ensures in
    no_rank k columns c.requires bases are (search rules)
