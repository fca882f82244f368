use Rattle.git_chamber.proofs.Existence.{cell_exists}
use Rattle.git_chamber.proofs.laws.signature_has_a_cell.Goals as goal

pub returns : goal.returns
returns c = cell_exists
