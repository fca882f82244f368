use Rattle.git_chamber.proofs.Uniqueness.{one_cell}
use Rattle.git_chamber.proofs.laws.signature_has_one_cell.Goals as goal

pub returns : goal.returns
returns c = one_cell
