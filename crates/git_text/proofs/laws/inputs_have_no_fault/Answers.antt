use Rattle.git_text.proofs.WholeTexts.{no_fault}
use Rattle.git_text.proofs.laws.inputs_have_no_fault.Goals as goal

pub returns : goal.returns
returns c = no_fault
