use Rattle.git_locate.proofs.Insides.{inside_where_own}
use Rattle.git_locate.proofs.laws.inside_exactly_where_own.Goals as goal

pub returns : goal.returns
returns c = inside_where_own
