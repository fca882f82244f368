use Rattle.std.proofs.Common.{List, sym, subst, ◌∙◌}
use Rattle.git_defs.specs.Vectors.{Vector}
use Rattle.git_grading.specs.Gradings.{IsGrading}
use Rattle.git_make.specs.Samples.{plucker_columns, plucker_relations}
use Rattle.git_make.proofs.Inputs.{planes_are_inputs}
use Rattle.git_make.proofs.Relations.{generators_moved}
use Rattle.git_make.proofs.planes.plucker.Goals as goal

pub grading_of-requires : goal.grading_of-requires
grading_of-requires c = subst (λ (vs : List Vector). IsGrading c.args.n vs) (sym c.in_ok-columns.ensures) (planes_are_inputs c.args.n c.requires).0

pub invariant_of-result : goal.invariant_of-result
invariant_of-result c =
    generators_moved c.in_ok-grading.grading c.args.n (plucker_columns c.args.n) c.in_ok-generators.generators.items (plucker_relations c.args.n)
    c.in_ok-grading.ensures.0 (c.in_ok-grading.ensures.1 ∙ c.in_ok-columns.ensures) c.in_ok-generators.ensures (planes_are_inputs c.args.n c.requires).1
