use Rattle.git_lines.proofs.FieldLemmas.{fields_of_spaced}
use Rattle.git_lines.proofs.laws.fields_are_read_back.Goals as goal

pub returns : goal.returns
returns c = fields_of_spaced
