use Rattle.std.proofs.Common.{◌≤◌, length, subst}
use Rattle.git_grading.specs.Gradings.{Degrees}
use Rattle.git_text.proofs.GeneratorLines.{generators_read}
use Rattle.git_text.proofs.input.rest.Goals as goal

pub invariant_of-result : goal.invariant_of-result
invariant_of-result c =
    generators_read c.args.grading _ _ c.in_ok-generators.generators.items
    (subst (λ (d : Degrees). length d.columns ≤ 16) c.grading.view_is c.grading.invariant.0.matrix.few_columns) c.in_ok-generators.ensures
