use Rattle.std.proofs.Common.{List, subst, ℕ}
use Rattle.std.specs.Prelude.{IsTrue, ◌↔◌}
use Rattle.git_defs.specs.Faces.{IsFullDimensional}
use Rattle.git_grading.proofs.Judged.{full_by}
use Rattle.git_grading.specs.Gradings.{Degrees}
use Rattle.git_grading.specs.Tables.{HasWithin}
use Rattle.git_grading.proofs.grading.Grading.full.Goals as goal

pub returns : goal.returns
returns c =
    let b = c.has_basis.result in let m = c.args.mask in let g = c.self.inside in
    subst (λ (d : Degrees). IsTrue b ↔ IsFullDimensional d.k d.columns m) c.self.view_is
    (full_by g.k g.columns.items c.self.invariant.0.matrix g.bases.items c.self.invariant.1 m b
    (subst (λ (l : List ℕ). IsTrue b ↔ HasWithin l m) c.deref.ensures.value c.has_basis.ensures))
