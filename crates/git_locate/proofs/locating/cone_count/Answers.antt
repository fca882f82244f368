use Rattle.std.proofs.Common.{ap, arith, length}
use Rattle.git_orbit.proofs.Fans.{fan_few}
use Rattle.git_locate.proofs.locating.cone_count.Goals as goal

pub overflow_cast-result : goal.overflow_cast-result
overflow_cast-result c =
    let few = fan_few c.cones.inside.k c.cones.inside.list.items c.cones.invariant in
    let e = ap length c.deref-list.ensures.value in
    omega (arith, few, e)
