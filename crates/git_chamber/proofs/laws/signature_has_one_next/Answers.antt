use Rattle.git_chamber.proofs.Graphs.{one_next}
use Rattle.git_chamber.proofs.laws.signature_has_one_next.Goals as goal

pub returns : goal.returns
returns c = one_next
