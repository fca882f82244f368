use Rattle.git_checktext.proofs.Texts.{text_or_refusal}
use Rattle.git_checktext.proofs.laws.check_text_or_refusal.Goals as goal

pub returns : goal.returns
returns c = text_or_refusal
