use Rattle.git_lines.proofs.NumberLemmas.{integer_once_is}
use Rattle.git_lines.proofs.laws.integers_have_one_spelling.Goals as goal

pub returns : goal.returns
returns c = integer_once_is
