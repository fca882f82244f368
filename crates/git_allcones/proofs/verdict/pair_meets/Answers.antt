use Rattle.std.proofs.Common.{◌↔◌, IsTrue, map, subst, sym}
use Rattle.git_cone_faces.specs.Families.{Cone}
use Rattle.git_allcones.specs.Cones.{cone_at, cone_of}
use Rattle.git_allcones.specs.Verdicts.{PairMeets}
use Rattle.git_allcones.proofs.Pairs.{cone_is, short_is}
use Rattle.git_allcones.proofs.verdict.pair_meets.Goals as goal

pub meet_in_faces-requires-clause-one : goal.meet_in_faces-requires-clause-one
meet_in_faces-requires-clause-one c = short_is c.args.k c.args.cones.now c.args.i c.index-cones-i.result c.requires.cones.each c.requires.first c.index-cones-i.is

pub meet_in_faces-requires-clause-other : goal.meet_in_faces-requires-clause-other
meet_in_faces-requires-clause-other c = short_is c.args.k c.args.cones.now c.args.j c.index-cones-j.result c.requires.cones.each c.requires.second c.index-cones-j.is

pub returns-in-Ok-clause-exact : goal.returns-in-Ok-clause-exact
returns-in-Ok-clause-exact c =
    let one = cone_is c.args.cones.now c.args.i c.index-cones-i.result c.requires.first c.index-cones-i.is in
    let other = cone_is c.args.cones.now c.args.j c.index-cones-j.result c.requires.second c.index-cones-j.is in
    let k = c.args.k in
    let yes = c.in-Ok.meets in
    subst (λ (C : Cone). IsTrue yes ↔ PairMeets k C (cone_at (map cone_of c.args.cones.now) c.args.j)) (sym one)
    (subst (λ (D : Cone). IsTrue yes ↔ PairMeets k (cone_of c.index-cones-i.result) D) (sym other) c.in-Ok.ensures.exact)
