use Rattle.git_machine.proofs.Words.{lowest_difference}
use Rattle.git_machine.proofs.comparing.lowest_difference.Goals as goal

pub returns : goal.returns
returns c = let d = lowest_difference c.args.x c.args.y c.ranges.x.fits c.ranges.y.fits c.requires in record { bound = d.low; same = d.same; apart = d.apart }
