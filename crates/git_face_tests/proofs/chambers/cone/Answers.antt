use Rattle.std.proofs.Common.{ℕ, List, subst, sym}
use Rattle.git_defs.specs.Vectors.{Vector}
use Rattle.git_defs.specs.Cones.{InCone, IsPointed}
use Rattle.git_canon.proofs.Cones.{grading_pointed}
use Rattle.git_face_tests.proofs.chambers.cone.Goals as goal

pub of_generators-requires-clause-pointed : goal.of_generators-requires-clause-pointed
of_generators-requires-clause-pointed c =
    let g = c.input.inside.grading in
    subst (λ (n : ℕ). IsPointed n (InCone n c.columns.result.now)) (sym c.k-k.ensures.value)
    (subst (λ (u : List Vector). IsPointed g.k (InCone g.k u)) (sym c.columns.ensures) (grading_pointed g.k g.columns c.k-k.ensures.grading))
