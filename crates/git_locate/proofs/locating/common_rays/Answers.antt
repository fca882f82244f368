use Rattle.std.proofs.Common.{◌≡◌, List, ap, subst, ℕ}
use Rattle.git_defs.specs.Vectors.{Vector}
use Rattle.git_defs.specs.Cones.{AreRays, Cut}
use Rattle.git_geometry.proofs.Rays.{rays_along}
use Rattle.git_orbit.specs.Orbits.{Fan}
use Rattle.git_orbit.specs.Signatures.{InChamber}
use Rattle.git_stages.specs.Wide.{NeverWide}
use Rattle.git_chamber.proofs.Cells.{narrow_signature}
use Rattle.git_chamber.proofs.Facets.{fan_seen, walls_cut}
use Rattle.git_locate.proofs.locating.common_rays.Goals as goal

pub returns-in-Ok-full_rays-clause-rays : goal.returns-in-Ok-full_rays-clause-rays
returns-in-Ok-full_rays-clause-rays c =
    let fan = c.args.cones.now in
    let sig = c.args.sig.now in
    let walls = c.in-Ok.inequalities.items in
    let found = c.in-Ok-full_rays.found.items in
    let same : c.cones.inside.k ≡ fan.k = ap (λ (f : Fan). f.k) c.cones.view_is in
    let here = subst (λ (k : ℕ). AreRays k (Cut k c.deref.result.now) found) same c.in-Ok-full_rays.ensures.rays in
    let rays : AreRays fan.k (Cut fan.k walls) found = subst (λ (u : List Vector). AreRays fan.k (Cut fan.k u) found) c.deref.ensures.value here in
    rays_along fan.k (Cut fan.k walls) (InChamber fan sig) found (walls_cut fan sig (fan_seen c.cones.view_is c.cones.invariant.fan) c.requires walls c.in-Ok.ensures.walls) rays

pub returns-in-Ok-full_rays-clause-narrow : goal.returns-in-Ok-full_rays-clause-narrow
returns-in-Ok-full_rays-clause-narrow c =
    let fan = c.args.cones.now in
    let sig = c.args.sig.now in
    let walls = c.in-Ok.inequalities.items in
    let same : c.cones.inside.k ≡ fan.k = ap (λ (f : Fan). f.k) c.cones.view_is in
    let here = subst (λ (k : ℕ). NeverWide k c.deref.result.now) same c.in-Ok-full_rays.ensures.narrow.1 in
    let never : NeverWide fan.k walls = subst (NeverWide fan.k) c.deref.ensures.value here in
    narrow_signature fan sig (fan_seen c.cones.view_is c.cones.invariant.fan) c.requires walls c.in-Ok.ensures.walls never
