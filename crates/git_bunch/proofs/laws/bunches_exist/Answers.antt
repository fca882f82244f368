use Rattle.git_bunch.proofs.Exist.{bunches_are}
use Rattle.git_bunch.proofs.laws.bunches_exist.Goals as goal

pub returns : goal.returns
returns c = bunches_are
