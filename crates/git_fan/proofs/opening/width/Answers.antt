use Rattle.std.proofs.Common.{length, ap, arith}
use Rattle.git_orbit.proofs.Fans.{fan_few}
use Rattle.git_fan.proofs.opening.width.Goals as goal

pub returns-clause-few : goal.returns-clause-few
returns-clause-few c =
    let few = fan_few c.cones.inside.k c.cones.inside.list.items c.cones.invariant in
    let same = ap length c.deref-list.ensures.value in
    omega (arith, few, same, c.div_ceil.ensures)
