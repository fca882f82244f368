use Rattle.std.proofs.Common.{◌↔◌, IsTrue, List, [], get_or, subst}
use Rattle.git_defs.specs.Vectors.{Vector}
use Rattle.git_orbit.specs.Signatures.{IsWall}
use Rattle.git_orbit.proofs.Indexes.{index_seen, same_normals, set_here, wall_of_set}
use Rattle.git_orbit.proofs.orbit.Cones.is_wall.Goals as goal

pub returns : goal.returns
returns c = λ normals are.
    let fan = c.args.self.now in
    let place = c.args.place in
    let ix = index_seen c.self.view_is c.self.invariant.index in
    let own = c.self.inside.index.normals.items in
    let low = c.requires own ix.normals_are in
    let set = set_here fan own c.self.inside.index.sets.items place c.index.result.now ix.sets_are low c.index.ensures in
    let wall = wall_of_set fan (get_or own place []) c.index.result.now c.args.sig.now set in
    subst (λ (ns : List Vector). IsTrue c.meets.result ↔ IsWall fan c.args.sig.now (get_or ns place [])) (same_normals fan own normals ix.normals_are are) (
      λ t. wall.0 (c.meets.ensures.0 t),
      λ h. c.meets.ensures.1 (wall.1 h),
    )
