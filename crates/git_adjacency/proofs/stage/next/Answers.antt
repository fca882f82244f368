use Rattle.std.proofs.Common.{[], List, take, sym, ◌∙◌, subst}
use Rattle.std.specs.Prelude.{Contains}
use Rattle.git_defs.specs.Vectors.{Vector}
use Rattle.git_geometry.specs.Stages.{IsNext}
use Rattle.git_stages.proofs.Fronts.{any_default}
use Rattle.git_adjacency.proofs.Kept.{next_is_same}
use Rattle.git_adjacency.specs.Marks.{vectors}
use Rattle.git_adjacency.specs.declared.ray.Ray.{Ray}
use Rattle.git_adjacency.proofs.stage.next.Goals as goal

pub returns-clause-next : goal.returns-clause-next
returns-clause-next c =
    let A = c.args.ordered.now in let n = c.args.n in let b = c.index-ordered-n.result in let R = c.args.rays.items in
    subst (λ (u : Vector). IsNext (take n A) (vectors R) u (vectors c.with_marks.result.items)) (c.index-ordered-n.is ∙ sym (any_default A n [] b c.requires.at))
    (next_is_same (take n A) (vectors R) b (vectors c.with_marks.result.items) c.with_marks.ensures.vectors (λ x m low.
    let e = c.cuts_off.ensures.1 (x, subst (λ (rs : List Ray). Contains (vectors rs) x) (sym c.deref.ensures.value) m, low) in absurd (cc (e, c.if-cuts_off.false))))
