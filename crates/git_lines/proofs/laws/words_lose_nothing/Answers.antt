use Rattle.git_lines.specs.declared.tokens.Joining.TheVariants.{Words}
use Rattle.git_lines.specs.Tokens.{joins_in}
use Rattle.git_lines.proofs.ColumnLemmas.{tokens_lose_nothing}
use Rattle.git_lines.proofs.laws.words_lose_nothing.Goals as goal

pub returns : goal.returns
returns c = tokens_lose_nothing (joins_in Words) 1
