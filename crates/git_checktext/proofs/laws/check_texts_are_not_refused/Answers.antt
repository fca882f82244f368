use Rattle.git_checktext.proofs.Texts.{text_passes}
use Rattle.git_checktext.proofs.laws.check_texts_are_not_refused.Goals as goal

pub returns : goal.returns
returns c = text_passes
