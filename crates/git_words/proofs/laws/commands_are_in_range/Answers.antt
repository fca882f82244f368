use Rattle.git_words.proofs.OneCommand.{commands_are_in_range}
use Rattle.git_words.proofs.laws.commands_are_in_range.Goals as goal

pub returns : goal.returns
returns c = commands_are_in_range
