use Rattle.git_lines.proofs.FieldLemmas.{fields_spaced}
use Rattle.git_lines.proofs.laws.fields_make_the_line.Goals as goal

pub returns : goal.returns
returns c = fields_spaced
