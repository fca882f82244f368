use Rattle.std.proofs.Common.{List, sym, subst}
use Rattle.git_defs.specs.Vectors.{Vector}
use Rattle.git_grading.specs.Gradings.{IsGrading}
use Rattle.git_make.proofs.Gradings.{points_are_a_grading}
use Rattle.git_make.proofs.draws.points.Goals as goal

pub grading_of-requires : goal.grading_of-requires
grading_of-requires c = subst (λ (vs : List Vector). IsGrading 3 vs) (sym c.in_ok-columns.ensures) (points_are_a_grading c.args.n c.args.seed c.requires.some c.requires.few)
