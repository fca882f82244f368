use Rattle.git_check_replies.proofs.Written.{written_valid}
use Rattle.git_check_replies.proofs.laws.written_texts_are_valid.Goals as goal

pub returns : goal.returns
returns c = written_valid
