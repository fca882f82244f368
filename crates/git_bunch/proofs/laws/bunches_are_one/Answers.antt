use Rattle.git_bunch.proofs.Once.{bunches_one}
use Rattle.git_bunch.proofs.laws.bunches_are_one.Goals as goal

pub returns : goal.returns
returns c = bunches_one
