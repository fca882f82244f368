use Rattle.std.proofs.Common.{List, All, ap, subst, sym, ℕ}
use Rattle.git_defs.specs.Vectors.{Vector}
use Rattle.git_orbit.specs.Orbits.{Fan}
use Rattle.git_orbit.specs.Signatures.{facets_at}
use Rattle.git_stages.specs.Short.{IsShort}
use Rattle.git_chamber.proofs.Crossings.{first_facets_short}
use Rattle.git_chamber.proofs.Facets.{fan_seen}
use Rattle.git_locate.specs.Positions.{IsFirstBelow}
use Rattle.git_locate.proofs.Sides.{first_refuses}
use Rattle.git_locate.proofs.locating.locate.Goals as goal

pub first_below-requires-clause-normals : goal.first_below-requires-clause-normals
first_below-requires-clause-normals c =
    let fan = c.args.cones.now in
    let all = first_facets_short fan (fan_seen c.cones.view_is c.cones.invariant.fan) c.requires.some in
    let here = subst (All (IsShort fan.k)) (sym c.facets_of.ensures.value) all in
    subst (λ (k : ℕ). All (IsShort k) c.facets_of.result.now) (sym (ap (λ (f : Fan). f.k) c.cones.view_is)) here

pub returns-in-Some-clause-place : goal.returns-in-Some-clause-place
returns-in-Some-clause-place c =
    let fan = c.args.cones.now in
    let first : IsFirstBelow (facets_at fan 0) c.args.w.now c.in-Some.n = subst (λ (vs : List Vector). IsFirstBelow vs c.args.w.now c.in-Some.n) c.facets_of.ensures.value c.in-Some.ensures.some in
    (first_refuses fan.k (facets_at fan 0) c.args.w.now c.in-Some.n first, first)
