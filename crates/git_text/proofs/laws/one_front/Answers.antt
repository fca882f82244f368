use Rattle.git_text.proofs.Fronts.{one_front}
use Rattle.git_text.proofs.laws.one_front.Goals as goal

pub returns : goal.returns
returns c = one_front
