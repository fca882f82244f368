use Rattle.std.proofs.Common.{List, ◌∙◌, ap, subst}
use Rattle.git_defs.specs.Vectors.{Vector}
use Rattle.git_geometry.specs.Zeros.{AreUndominated}
use Rattle.git_adjacency.specs.Marks.{vectors}
use Rattle.git_canon.proofs.Cones.{undominated_sorted}
use Rattle.git_canon.proofs.dropping.undominated.Goals as goal

pub returns-clause-undominated : goal.returns-clause-undominated
returns-clause-undominated c =
    let same = ap vectors c.deref.ensures.value ∙ c.in_ok-marked.ensures.vectors in
    undominated_sorted c.args.inequalities.now c.args.given.now c.in_ok-out.out.items c.sorted_set.result.items
    (subst (λ (u : List Vector). AreUndominated c.args.inequalities.now u c.in_ok-out.out.items) same c.in_ok-out.ensures) c.sorted_set.ensures.sorted
