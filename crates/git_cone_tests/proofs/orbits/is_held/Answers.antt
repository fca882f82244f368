use Rattle.std.proofs.Common.{ℕ, subst, sym}
use Rattle.git_defs.specs.Vectors.{AllOfLength}
use Rattle.git_orbit.proofs.Fans.{cone_seen}
use Rattle.git_cone_tests.proofs.orbits.is_held.Goals as goal

pub held-requires : goal.held-requires
held-requires c =
    let at = cone_seen c.args.cones.now c.cones.view_is c.cones.invariant.fan c.args.i c.index.result.now c.requires.within c.index.ensures in
    record { lengths = subst (λ (k : ℕ). AllOfLength k c.args.germ.now) (sym at.entries) c.requires.lengths }
