use Rattle.std.proofs.Common.{◌≡◌, ◌≤◌, ◌∙◌, length, subst, sym, List}
use Rattle.git_defs.specs.Vectors.{Vector}
use Rattle.git_orbit.specs.Signatures.{facets_at}
use Rattle.git_orbit.proofs.Fans.{cone_seen}
use Rattle.git_chamber.proofs.Facets.{cone_facets, fan_seen}
use Rattle.git_chamber.proofs.wall_lists.facets_of.Goals as goal

pub returns-clause-few : goal.returns-clause-few
returns-clause-few c =
    let fan = c.args.cones.now in
    let facts = cone_facets fan (fan_seen c.cones.view_is c.cones.invariant.fan) c.args.i c.requires in
    let at = cone_seen fan c.cones.view_is c.cones.invariant.fan c.args.i c.index.result.now c.requires c.index.ensures in
    let same : c.normals.result.now ≡ facets_at fan c.args.i = c.normals.ensures ∙ sym at.facets in
    subst (λ (vs : List Vector). length vs ≤ 65536) (sym same) facts.few
