use Rattle.std.proofs.Common.{List, get_or, subst}
use Rattle.std.specs.Prelude.{Contains}
use Rattle.git_defs.specs.Vectors.{Vector}
use Rattle.git_stages.proofs.Fronts.{any_default}
use Rattle.git_orbit.proofs.index.marked.Goals as goal

pub mark-requires-clause-there : goal.mark-requires-clause-there
mark-requires-clause-there c = λ k d low.
    let facets = c.facets_of.result.now in
    let v = get_or facets k d in
    (c.requires.each v).1 (c.loop-i.i, c.loop-i-test.true, subst (λ (l : List Vector). Contains l v) c.facets_of.ensures (k, low, any_default facets k v d low))
