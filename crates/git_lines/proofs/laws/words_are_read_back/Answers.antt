use Rattle.git_lines.proofs.WordLemmas.{words_spaced}
use Rattle.git_lines.proofs.laws.words_are_read_back.Goals as goal

pub returns : goal.returns
returns c = words_spaced
