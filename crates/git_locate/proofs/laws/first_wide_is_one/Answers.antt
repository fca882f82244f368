use Rattle.git_locate.proofs.Several.{first_wide_once}
use Rattle.git_locate.proofs.laws.first_wide_is_one.Goals as goal

pub returns : goal.returns
returns c = first_wide_once
