use Rattle.git_text.proofs.Matrices.{text_is_a_grading}
use Rattle.git_text.proofs.laws.inputs_are_graded.Goals as goal

pub returns : goal.returns
returns c bytes v i = text_is_a_grading i.matrix_lines v.degrees i.matrix
