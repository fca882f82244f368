use Rattle.git_chamber.proofs.Graphs.{next_legal}
use Rattle.git_chamber.proofs.laws.next_is_legal.Goals as goal

pub returns : goal.returns
returns c = next_legal
