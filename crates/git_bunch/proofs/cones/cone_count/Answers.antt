use Rattle.std.proofs.Common.{◌∙◌, ap, arith, length}
use Rattle.git_orbit.proofs.Fans.{fan_few}
use Rattle.git_orbit.specs.Orbits.{Fan}
use Rattle.git_bunch.proofs.cones.cone_count.Goals as goal

pub returns-clause-value : goal.returns-clause-value
returns-clause-value c = ap length c.deref-list.ensures.value ∙ ap (λ (f : Fan). length f.list) c.cones.view_is

pub returns-clause-few : goal.returns-clause-few
returns-clause-few c =
    let few = fan_few c.cones.inside.k c.cones.inside.list.items c.cones.invariant in
    let e = ap length c.deref-list.ensures.value in
    omega (arith, few, e)
