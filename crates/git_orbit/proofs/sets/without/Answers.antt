use Rattle.git_orbit.proofs.NumberSets.{without_bits}
use Rattle.git_orbit.proofs.sets.without.Goals as goal

pub returns : goal.returns
returns c = without_bits c.args.word c.args.other c.ranges.other.fits
