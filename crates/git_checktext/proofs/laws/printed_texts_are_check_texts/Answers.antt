use Rattle.git_text.proofs.Matrices.{text_is_a_grading}
use Rattle.git_checktext.proofs.Texts.{printed}
use Rattle.git_checktext.proofs.laws.printed_texts_are_check_texts.Goals as goal

pub returns : goal.returns
returns c = λ front v l vs i e. printed front v l vs i e (text_is_a_grading i.matrix_lines v.degrees i.matrix).matrix.few_columns
