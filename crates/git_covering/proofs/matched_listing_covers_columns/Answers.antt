use Rattle.git_chamber.proofs.Firsts.{first_legal}
use Rattle.git_orbit.proofs.Fans.{first_is_whole}
use Rattle.git_orbit.proofs.Walls.{first_germ_held}
use Rattle.git_covering.proofs.Listed.{listing_covers}
use Rattle.git_covering.proofs.matched_listing_covers_columns.Goals as goal

pub returns : goal.returns
returns c = λ g first r l is signature listing matched w inside.
    let fan = g.fan in
    let legal = first_legal g is first signature in
    let whole = first_is_whole fan.k g.columns is.cones.masks fan.list is.grading.rank is.cones.cones is.cones.whole in
    listing_covers fan (record { columns = g.columns; grading = is.grading; masks = is.cones.masks; faces = is.cones.faces; cones = is.cones.cones })
    first r l legal ((signature.each 0).1 (whole.0, first_germ_held fan.k g.columns is.cones.masks fan.list is.grading is.cones.cones is.cones.whole)) listing matched w ((whole.1 w).1 inside)
