use Rattle.git_locate.proofs.Gathered.{numbers}
use Rattle.git_locate.proofs.locating.within.Goals as goal

pub common_rays-requires : goal.common_rays-requires
common_rays-requires c = numbers c.args.cones.now c.args.w.now c.in-Ok.sig c.requires.weight.entries c.in-Ok.ensures.germ c.requires.some c.requires.within
