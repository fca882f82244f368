use Rattle.std.proofs.Common.{sym}
use Rattle.git_orbit.proofs.Fans.{cone_seen}
use Rattle.git_bunch.proofs.cones.cone_at.Goals as goal

pub returns : goal.returns
returns c =
    let at = cone_seen c.args.cones.now c.cones.view_is c.cones.invariant.fan c.args.i c.index.result.now c.requires c.index.ensures in
    record { entries = at.entries; facets = sym at.facets }
