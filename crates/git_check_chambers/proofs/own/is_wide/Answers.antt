use Rattle.std.proofs.Common.{subst}
use Rattle.git_stages.specs.Wide.{NeverWide}
use Rattle.git_orbit.specs.Orbits.{Fan}
use Rattle.git_check_chambers.proofs.OwnReasons.{never_narrow}
use Rattle.git_check_chambers.proofs.own.is_wide.Goals as goal

pub returns-in-Ok-clause-narrow : goal.returns-in-Ok-clause-narrow
returns-in-Ok-clause-narrow c = λ _.
    let walls = c.in_ok-walls.walls.items in
    let never = subst (λ (f : Fan). NeverWide f.k walls) c.cones.view_is (subst (NeverWide c.cones.inside.k) c.deref.ensures.value c.in-Ok.ensures.narrow.1) in
    never_narrow c.args.cones.now c.args.sig.now walls c.in_ok-walls.ensures.walls never
