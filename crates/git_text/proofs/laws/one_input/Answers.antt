use Rattle.git_text.proofs.WholeTexts.{one_input}
use Rattle.git_text.proofs.laws.one_input.Goals as goal

pub returns : goal.returns
returns c = one_input
