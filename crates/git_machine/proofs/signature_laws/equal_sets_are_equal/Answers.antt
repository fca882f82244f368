use Rattle.git_machine.proofs.Words.{equal_sets}
use Rattle.git_machine.proofs.signature_laws.equal_sets_are_equal.Goals as goal

pub returns : goal.returns
returns c = equal_sets
