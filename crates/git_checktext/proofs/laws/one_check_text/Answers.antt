use Rattle.git_checktext.proofs.Texts.{one_text}
use Rattle.git_checktext.proofs.laws.one_check_text.Goals as goal

pub returns : goal.returns
returns c = one_text
