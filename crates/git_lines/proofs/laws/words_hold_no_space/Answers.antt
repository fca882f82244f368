use Rattle.git_lines.specs.declared.tokens.Joining.TheVariants.{Words}
use Rattle.git_lines.specs.Tokens.{joins_in}
use Rattle.git_lines.proofs.WordLemmas.{tokens_are_words}
use Rattle.git_lines.proofs.laws.words_hold_no_space.Goals as goal

pub returns : goal.returns
returns c = tokens_are_words (joins_in Words) 1
