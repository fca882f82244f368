use Rattle.git_chamber.proofs.Existence.{next_exists}
use Rattle.git_chamber.proofs.laws.signature_has_a_next.Goals as goal

pub returns : goal.returns
returns c = next_exists
