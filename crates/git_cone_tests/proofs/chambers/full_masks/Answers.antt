use Rattle.std.proofs.Common.{sym, subst}
use Rattle.git_orbit.proofs.FullMasks.{FacesFrom, faces_none}
use Rattle.git_cone_tests.proofs.chambers.full_masks.Goals as goal

pub loop-i-init : goal.loop-i-init
loop-i-init c = subst (FacesFrom c.args.g.now.k c.args.g.now.columns c.args.count 0) (sym c.new-out.ensures.items) (faces_none c.args.g.now.k c.args.g.now.columns c.args.count)
