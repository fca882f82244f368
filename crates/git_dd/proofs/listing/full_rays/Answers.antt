use Rattle.std.proofs.Common.{ap, arith, length}
use Rattle.git_dd.proofs.listing.full_rays.Goals as goal

pub full_rays_of-requires-clause-few : goal.full_rays_of-requires-clause-few
full_rays_of-requires-clause-few c = let e = ap length c.deref.ensures.value in let f = c.in-Ok.ensures.size in let g = c.requires.few in omega (arith, e, f, g)
