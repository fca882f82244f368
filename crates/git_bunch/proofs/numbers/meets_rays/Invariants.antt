use Rattle.std.proofs.Common.{take}
use Rattle.git_bunch.specs.Keys.{MeetsRays}
use Rattle.git_bunch.proofs.numbers.meets_rays.Given as goal

abbrev pub invariant-loop-ray : goal.invariant-loop-ray
invariant-loop-ray l = MeetsRays l.columns (take l.ray-index l.rays) l.mask
