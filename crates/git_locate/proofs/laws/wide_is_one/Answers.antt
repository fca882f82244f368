use Rattle.git_locate.proofs.Once.{one_wide}
use Rattle.git_locate.proofs.laws.wide_is_one.Goals as goal

pub returns : goal.returns
returns c = one_wide
