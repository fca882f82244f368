use Rattle.git_locate.proofs.Once.{place_not_wide}
use Rattle.git_locate.proofs.laws.place_is_not_wide.Goals as goal

pub returns : goal.returns
returns c = place_not_wide
