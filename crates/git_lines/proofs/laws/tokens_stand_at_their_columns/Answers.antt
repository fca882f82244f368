use Rattle.git_lines.specs.Tokens.{joins_in}
use Rattle.git_lines.proofs.ColumnLemmas.{tokens_stand}
use Rattle.git_lines.proofs.laws.tokens_stand_at_their_columns.Goals as goal

pub returns : goal.returns
returns c = λ joining. tokens_stand (joins_in joining)
