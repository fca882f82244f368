use Rattle.git_words.proofs.Decided.{command_or_none}
use Rattle.git_words.proofs.laws.command_or_none.Goals as goal

pub returns : goal.returns
returns c = command_or_none
