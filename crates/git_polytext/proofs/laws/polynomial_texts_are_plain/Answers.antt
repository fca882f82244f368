use Rattle.git_polytext.proofs.TextBytes.{text_is_plain}
use Rattle.git_polytext.proofs.laws.polynomial_texts_are_plain.Goals as goal

pub returns : goal.returns
returns c = text_is_plain
