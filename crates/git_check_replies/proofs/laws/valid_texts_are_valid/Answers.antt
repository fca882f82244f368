use Rattle.git_check_replies.proofs.OneText.{valid_is_answered}
use Rattle.git_check_replies.proofs.laws.valid_texts_are_valid.Goals as goal

pub returns : goal.returns
returns c = valid_is_answered
