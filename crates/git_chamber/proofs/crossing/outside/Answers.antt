use Rattle.std.proofs.Common.{◌<◌, ℕ, All, ap, length, subst, sym, arith}
use Rattle.std.proofs.lemmas.Grind.{common_steps}
use Rattle.git_orbit.specs.Orbits.{Fan}
use Rattle.git_stages.specs.Short.{IsShort}
use Rattle.git_chamber.proofs.Crossings.{first_facets_short}
use Rattle.git_chamber.proofs.Facets.{fan_seen}
use Rattle.git_chamber.proofs.crossing.outside.Goals as goal

pub first_negative-requires-clause-normals : goal.first_negative-requires-clause-normals
first_negative-requires-clause-normals c =
    let fan = c.args.cones.now in
    let low : 0 < length c.cones.inside.list.items = grind (arith, common_steps) in
    let same = ap (λ (f : Fan). length f.list) c.cones.view_is in
    let some : 0 < length fan.list = omega (arith, low, same) in
    let all = first_facets_short fan (fan_seen c.cones.view_is c.cones.invariant.fan) some in
    let here = subst (All (IsShort fan.k)) (sym c.facets_of.ensures.value) all in
    subst (λ (k : ℕ). All (IsShort k) c.facets_of.result.now) (sym (ap (λ (f : Fan). f.k) c.cones.view_is)) here
