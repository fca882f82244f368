use Rattle.std.proofs.Common.{ℕ, List, subst, sym, ◌∙◌, ap}
use Rattle.std.specs.Prelude.{slice_get}
use Rattle.git_defs.specs.Vectors.{Vector}
use Rattle.git_canon.specs.Canons.{HasInsideOf, entries_of}
use Rattle.git_canon.proofs.Cones.{inside_of_canonical, entries_first}
use Rattle.git_cone_tests.proofs.canonical.cut_again.Goals as goal

pub of_inequalities-requires-clause-inside : goal.of_inequalities-requires-clause-inside
of_inequalities-requires-clause-inside c =
    let R = c.c.inside.rays.items in let F = c.c.inside.facets.items in
    let e = entries_first R c.in-Some.first.now (sym (c.in-Some.ensures.value ∙ ap (λ (u : List Vector). slice_get u 0) c.deref.ensures.value)) in
    subst (λ (u : List Vector). HasInsideOf c.len-k.result u) (sym c.deref-2.ensures.value)
    (subst (λ (n : ℕ). HasInsideOf n F) (e ∙ sym c.len-k.ensures.value) (inside_of_canonical (entries_of R) R F c.c.invariant))
