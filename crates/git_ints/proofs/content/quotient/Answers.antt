use Rattle.git_ints.proofs.Contents.{machine_quotient}
use Rattle.git_ints.proofs.content.quotient.Goals as goal

pub returns : goal.returns
returns c = machine_quotient c.args.entry c.args.by c.ranges.entry c.requires.some c.requires.small c.requires.divides
