use Rattle.git_text.proofs.Fronts.{front_no_fault}
use Rattle.git_text.proofs.laws.fronts_have_no_fault.Goals as goal

pub returns : goal.returns
returns c = front_no_fault
