use Rattle.git_text.proofs.WholeTexts.{one_first_fault}
use Rattle.git_text.proofs.laws.one_first_fault.Goals as goal

pub returns : goal.returns
returns c = one_first_fault
