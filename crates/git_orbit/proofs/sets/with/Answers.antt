use Rattle.git_orbit.proofs.NumberSets.{with_bits}
use Rattle.git_orbit.proofs.sets.with.Goals as goal

pub returns : goal.returns
returns c = λ j low. with_bits c.args.word c.args.bit c.requires j
