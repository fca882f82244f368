use Rattle.git_lines.proofs.NumberLemmas.{integer_is_read_back}
use Rattle.git_lines.proofs.laws.integers_are_read_back.Goals as goal

pub returns : goal.returns
returns c = integer_is_read_back
