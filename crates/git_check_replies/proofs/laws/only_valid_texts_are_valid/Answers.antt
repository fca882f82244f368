use Rattle.git_check_replies.proofs.OneText.{only_valid}
use Rattle.git_check_replies.proofs.laws.only_valid_texts_are_valid.Goals as goal

pub returns : goal.returns
returns c = only_valid
